use Rattle.std.proofs.Common.{◌≡◌, drop}
use Rattle.std.specs.Map.{keys_of}
use Rattle.pddl_syntax.specs.Optional.{through}
use Rattle.pddl_syntax.specs.Syntax.{effects_of}
use Rattle.pddl_reader.specs.Effects.{all_single_effects, with_effect}
use Rattle.pddl_reader.specs.Resolved.{vocabulary_form}
use Rattle.pddl_reader.proofs.resolution.effects.+single_effects.Given as goal

abbrev pub invariant-put_effects-parts : goal.invariant-put_effects-parts
invariant-put_effects-parts l = record {
  so_far : through (with_effect (keys_of l.types) (vocabulary_form l.vocabulary) l.fn.scope) l.effects (all_single_effects (effects_of (drop l.part-index l.parts)))
      ≡ through (with_effect (keys_of l.types) (vocabulary_form l.vocabulary) l.fn.scope) l.fn.effects (all_single_effects (effects_of l.parts));
  same : l.scope ≡ l.fn.scope;
}
