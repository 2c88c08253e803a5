use Rattle.std.proofs.Common.{◌≡◌, ◌∷◌, ◌++◌, [], List, Some, IfOk, IfNone, IfSome, map, slice_get, ap, subst, sym, ◌∙◌}
use Rattle.pddl_words.specs.Words.{folded}
use Rattle.strips_task.specs.declared.steps.StepText.{StepText}
use Rattle.strips_task.specs.OpenPlan.{OpenPlan}
use Rattle.strips_task.specs.StepView.{step_shown}
use Rattle.strips_task.specs.Steps.{step_of}
use Rattle.text_judge.specs.Judging.{HasTaken}
use Rattle.text_judge.specs.Passes.{FailsNext}
use Rattle.text_judge.proofs.pass.take_words.Goals as goal

-- the only step of a plan
only_step : (plan : OpenPlan) (step shown : StepText) → plan ≡ record { steps = step ∷ []; words = [] } → slice_get plan.steps 0 ≡ Some shown → shown ≡ step
only_step plan step shown is at =
    let same : Some shown ≡ Some step = sym at ∙ ap (λ (p : OpenPlan). slice_get p.steps 0) is in cc

pub returns-clause-taken : goal.returns-clause-taken
returns-clause-taken c =
    let step = step_of (map folded c.args.words) in
    subst (λ (s : StepText). IfOk c.take.result (λ why. IfNone why ((steps : List StepText) → HasTaken c.args.judge.now steps → HasTaken c.take.new.self (steps ++ s ∷ []))))
    (only_step c.push_to.new.step step (step_shown c.get.result) c.in_ok-push_to.ensures c.get.ensures) c.take.ensures.taken

pub returns-clause-fails : goal.returns-clause-fails
returns-clause-fails c =
    let step = step_of (map folded c.args.words) in
    subst (λ (s : StepText). IfOk c.take.result (λ why. IfSome why (λ why. (steps : List StepText) → HasTaken c.args.judge.now steps → FailsNext c.args.judge.now.task steps s why)))
    (only_step c.push_to.new.step step (step_shown c.get.result) c.in_ok-push_to.ensures c.get.ensures) c.take.ensures.fails
