use Rattle.std.proofs.Common.{◌≡◌, ◌++◌, drop, map}
use Rattle.pddl_reader.specs.TypeOrder.{parent_number, parents_of}
use Rattle.pddl_reader.proofs.resolution.types.parents.Given as goal

abbrev pub invariant-types : goal.invariant-types
invariant-types l =
    l.parents ++ map (λ entry. parent_number l.tables entry.0) (drop l.number l.tables.names) ≡ parents_of l.tables
