use Rattle.std.proofs.Common.{◌≡◌, drop}
use Rattle.std.specs.Map.{values_of}
use Rattle.task_reader.specs.Bindings.{excess_from}
use Rattle.task_reader.proofs.excess.first_excess.Given as goal

abbrev pub invariant-actions : goal.invariant-actions
invariant-actions l = excess_from l.task l.number (drop l.number (values_of l.task.actions)) ≡ excess_from l.task 0 (values_of l.task.actions)
