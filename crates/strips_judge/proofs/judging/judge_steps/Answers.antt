use Rattle.std.proofs.Common.{◌≡◌, ◌<◌, ◌≤◌, length, ap, sym, ◌∙◌, arith}
use Rattle.strips_task.specs.StepView.{step_shown}
use Rattle.strips_judge.specs.NumberedState.{state_of}
use Rattle.strips_judge.specs.Step.{missing}
use Rattle.strips_judge.specs.Verdict.{goal_verdict}
use Rattle.strips_judge.proofs.VerdictLaws.{step_fails, step_taken, steps_end, success_as, without_value}
use Rattle.strips_judge.proofs.judging.judge_steps.Goals as goal

pub returns-in-Some : goal.returns-in-Some
returns-in-Some c =
    let lt : c.loop-index.index < length c.args.steps.now = omega arith in
    step_fails c.args.task.now _ (state_of c.loop-index.state) c.args.steps.now c.loop-index.index c.loop-index.invariant (step_shown c.get.result) c.in-Some.why lt c.get.ensures
    (sym c.in-Some.is ∙ c.in_ok-why.ensures.why)

pub loop-index-preserved : goal.loop-index-preserved
loop-index-preserved c =
    let lt : c.loop-index.index < length c.args.steps.now = omega arith in
    step_taken c.args.task.now _ (state_of c.loop-index.state) c.args.steps.now c.loop-index.index c.loop-index.invariant (step_shown c.get.result) (state_of c.take_step.new.state) lt c.get.ensures
    (sym c.in_default.is ∙ c.in_ok-why.ensures.why)
    (without_value _ c.in_default.is c.in_ok-why.ensures.next)

pub returns : goal.returns
returns c =
    let past : length c.args.steps.now ≤ c.loop-index.index = omega arith in
    let all : c.loop-index.index ≡ c.len.result = omega arith in
    let end = steps_end c.args.task.now _ (state_of c.loop-index.state) c.args.steps.now c.loop-index.index c.loop-index.invariant past in
    success_as _ _ c.judge_goal.result
    (λ answer is. is ∙ ap (λ n. goal_verdict n (missing c.args.task.now (state_of c.loop-index.state) c.args.task.now.goal)) (sym all) ∙ sym end)
    c.judge_goal.ensures.verdict
