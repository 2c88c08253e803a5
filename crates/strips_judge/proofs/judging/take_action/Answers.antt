use Rattle.std.proofs.Common.{◌≡◌, ℕ, List, Some, ◌∙◌}
use Rattle.strips_task.specs.StepView.{step_shown}
use Rattle.strips_judge.specs.NumberedState.{state_of}
use Rattle.strips_judge.specs.Step.{after_by, objects_named}
use Rattle.strips_judge.proofs.VerdictLaws.{without_value}
use Rattle.strips_judge.proofs.judging.take_action.Goals as goal

pub returns-clause-next : goal.returns-clause-next
returns-clause-next c =
    let named : c.as_slice-objects.result.now ≡ objects_named c.args.task.now (step_shown c.args.step).args =
    ◌∙◌ {A = List ℕ} c.as_slice-objects.ensures.value (without_value _ c.in_default.is c.in_ok-why.ensures.bound) in
    c.in_ok-apply.ensures.state ∙ (λ j. after_by c.args.task.now (named j) (state_of (c.hindrance.ensures.same j)) (Some c.args.action.now))
