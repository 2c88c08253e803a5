use Rattle.std.proofs.Common.{◌≡◌, drop}
use Rattle.std.specs.List.{list_any}
use Rattle.strips_task.specs.Types.{is_below}
use Rattle.strips_judge.proofs.arguments.is_below_one.Given as goal

abbrev pub invariant-loop-other : goal.invariant-loop-other
invariant-loop-other l =
    list_any (is_below l.task.parents l.number) l.others ≡ list_any (is_below l.task.parents l.number) (drop l.other-index l.others)
