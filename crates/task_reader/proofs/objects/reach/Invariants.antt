use Rattle.std.proofs.Common.{◌≡◌, ◌+◌, ◌-◌, ◌++◌, length}
use Rattle.task_reader.specs.Capped.{repeated}
use Rattle.task_reader.proofs.objects.reach.Given as goal

abbrev pub invariant-types : goal.invariant-types
invariant-types l = l.exact.items ++ repeated (l.type_number + 1 - length l.exact.items) 0 ≡ l.fn.exact.items ++ repeated (l.type_number + 1 - length l.fn.exact.items) 0

abbrev pub decreases-types : goal.decreases-types
decreases-types l = l.type_number + 1 - length l.exact.items
