use Rattle.std.proofs.Common.{◌≡◌, ◌≤◌, [], length, drop}
use Rattle.std.specs.Map.{keys_of}
use Rattle.pddl_reader.specs.Domain.{with_predicate}
use Rattle.pddl_syntax.specs.Forms.{predicate_forms}
use Rattle.pddl_syntax.specs.Optional.{through}
use Rattle.pddl_reader.proofs.resolution.domain.predicates.Given as goal

abbrev pub invariant-predicates : goal.invariant-predicates
invariant-predicates l = record {
  few : length l.table ≤ 4096;
  so_far : through (with_predicate (keys_of l.types)) l.table (predicate_forms (drop l.predicate-index l.declared))
      ≡ through (with_predicate (keys_of l.types)) [] (predicate_forms l.declared);
}
