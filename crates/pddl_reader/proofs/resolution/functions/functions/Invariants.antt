use Rattle.std.proofs.Common.{◌≡◌, ◌≤◌, [], length, drop}
use Rattle.std.specs.Map.{keys_of}
use Rattle.pddl_reader.specs.Domain.{with_function}
use Rattle.pddl_syntax.specs.Forms.{predicate_forms}
use Rattle.pddl_syntax.specs.Optional.{through}
use Rattle.pddl_reader.proofs.resolution.functions.functions.Given as goal

abbrev pub invariant-functions : goal.invariant-functions
invariant-functions l = record {
  few : length l.table ≤ 4096;
  so_far : through (with_function (keys_of l.types)) l.table (predicate_forms (drop l.function-index l.declared))
      ≡ through (with_function (keys_of l.types)) [] (predicate_forms l.declared);
}
