use Rattle.std.proofs.Common.{◌≡◌, drop}
use Rattle.std.specs.List.{list_any}
use Rattle.strips_task.specs.Types.{is_below}
use Rattle.task_reader.proofs.objects.is_below_some.Given as goal

abbrev pub invariant-types : goal.invariant-types
invariant-types l = list_any (is_below l.task.parents l.sub) (drop l.sup-index l.types) ≡ list_any (is_below l.task.parents l.sub) l.types
