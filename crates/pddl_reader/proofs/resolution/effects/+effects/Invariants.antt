use Rattle.std.proofs.Common.{◌≡◌, drop}
use Rattle.std.specs.Map.{keys_of}
use Rattle.pddl_syntax.specs.Optional.{with_front}
use Rattle.pddl_syntax.specs.Syntax.{effects_of}
use Rattle.pddl_reader.specs.Effects.{effects_meant}
use Rattle.pddl_reader.specs.Resolved.{known_form}
use Rattle.pddl_reader.proofs.resolution.effects.+effects.Given as goal

abbrev pub invariant-joint-parts : goal.invariant-joint-parts
invariant-joint-parts l = record {
  so_far : with_front l.effects.items (effects_meant (keys_of l.context.types.now) (known_form l.context.known) l.fn.scope (effects_of (drop l.part-index l.parts)))
      ≡ effects_meant (keys_of l.context.types.now) (known_form l.context.known) l.fn.scope (effects_of l.parts);
  same : l.scope ≡ l.fn.scope;
}
