use Rattle.std.proofs.Common.{◌≡◌, ◌+◌, drop}
use Rattle.std.specs.List.{position_from, zip}
use Rattle.strips_judge.specs.Step.{is_ill_typed}
use Rattle.strips_judge.proofs.arguments.first_ill_typed.Given as goal

abbrev pub invariant-loop-index : goal.invariant-loop-index
invariant-loop-index l =
    position_from (is_ill_typed l.task) 1 (zip l.params l.objects)
    ≡ position_from (is_ill_typed l.task) (l.index + 1) (zip (drop l.index l.params) (drop l.index l.objects))
