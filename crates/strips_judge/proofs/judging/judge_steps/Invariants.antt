use Rattle.std.proofs.Common.{◌≡◌, drop}
use Rattle.strips_judge.specs.NumberedState.{state_of}
use Rattle.strips_judge.specs.State.{is_in}
use Rattle.strips_judge.specs.Verdict.{verdict_from}
use Rattle.strips_judge.proofs.judging.judge_steps.Given as goal

abbrev pub invariant-loop-index : goal.invariant-loop-index
invariant-loop-index l =
    verdict_from l.task 0 (is_in l.task.init) l.steps ≡ verdict_from l.task l.index (state_of l.state) (drop l.index l.steps)
