use Rattle.std.proofs.Common.{◌≡◌, drop}
use Rattle.std.specs.Map.{keys_of}
use Rattle.pddl_syntax.specs.Optional.{through}
use Rattle.pddl_syntax.specs.Syntax.{formulas_of}
use Rattle.pddl_reader.specs.Conditions.{all_conjuncts, with_condition}
use Rattle.pddl_reader.specs.Resolved.{known_form}
use Rattle.pddl_reader.proofs.resolution.conditions.+conjuncts.Given as goal

abbrev pub invariant-put_all_conjuncts-parts : goal.invariant-put_all_conjuncts-parts
invariant-put_all_conjuncts-parts l = record {
  so_far : through (with_condition (keys_of l.context.types.now) (known_form l.context.known) l.fn.scope) l.conditions (all_conjuncts (formulas_of (drop l.part-index l.parts)))
      ≡ through (with_condition (keys_of l.context.types.now) (known_form l.context.known) l.fn.scope) l.fn.conditions (all_conjuncts (formulas_of l.parts));
  same : l.scope ≡ l.fn.scope;
}
