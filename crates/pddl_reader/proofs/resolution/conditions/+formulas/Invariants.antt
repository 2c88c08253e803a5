use Rattle.std.proofs.Common.{◌≡◌, drop}
use Rattle.std.specs.Map.{keys_of}
use Rattle.pddl_syntax.specs.Optional.{with_front}
use Rattle.pddl_syntax.specs.Syntax.{formulas_of}
use Rattle.pddl_reader.specs.Conditions.{trees_meant}
use Rattle.pddl_reader.specs.Resolved.{known_form}
use Rattle.pddl_reader.proofs.resolution.conditions.+formulas.Given as goal

abbrev pub invariant-compound-parts : goal.invariant-compound-parts
invariant-compound-parts l = record {
  so_far : with_front l.formulas.items (trees_meant (keys_of l.context.types.now) (known_form l.context.known) l.fn.scope (formulas_of (drop l.part-index l.parts)))
      ≡ trees_meant (keys_of l.context.types.now) (known_form l.context.known) l.fn.scope (formulas_of l.parts);
  same : l.scope ≡ l.fn.scope;
}
