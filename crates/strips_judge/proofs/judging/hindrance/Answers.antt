use Rattle.std.proofs.Common.{◌≡◌, ℕ, List, [], Some, None, sym, ap, ◌∙◌, map}
use Rattle.std.specs.Option.{option_or}
use Rattle.formulas.specs.Grounding.{with_objects}
use Rattle.strips_task.specs.declared.tasks.TaskParts.{TaskParts}
use Rattle.strips_task.specs.StepView.{step_shown}
use Rattle.strips_judge.specs.NumberedState.{state_of}
use Rattle.strips_judge.specs.Step.{argument_fault, conditions_by, missing, missing_why, objects_named}
use Rattle.strips_judge.proofs.VerdictLaws.{if_none_known, success_as, without_value}
use Rattle.strips_judge.proofs.judging.hindrance.Goals as goal

pub returns-clause-why : goal.returns-clause-why
returns-clause-why c =
    let task = c.args.task.now in
    let state = state_of c.args.state.now in
    let action = c.args.action.now in
    let args = (step_shown c.args.step).args in
    let faultless : None ≡ argument_fault task action args =
    sym c.in_default.is ∙ c.in_ok-why.ensures.fault ∙ ap (λ (parts : TaskParts). argument_fault parts action args) c.task.ensures in
    let named : c.as_slice-objects.result.now ≡ objects_named task args =
    ◌∙◌ {A = List ℕ} c.as_slice-objects.ensures.value (without_value _ c.in_default.is c.in_ok-why.ensures.bound ∙ ap (λ (parts : TaskParts). objects_named parts args) c.task.ensures) in
    success_as _ _ c.why_missing.result
    (λ why is. is ∙ (λ j. missing_why (missing task state (map (with_objects (named j) []) (c.as_slice-conditions.ensures j))))
    ∙ ap (λ fault. option_or fault (missing_why (missing task state (conditions_by (objects_named task args) (Some action))))) faultless)
    c.why_missing.ensures.why

pub returns-clause-bound : goal.returns-clause-bound
returns-clause-bound c =
    if_none_known c.why_missing.result
    (without_value _ c.in_default.is c.in_ok-why.ensures.bound ∙ ap (λ (parts : TaskParts). objects_named parts (step_shown c.args.step).args) c.task.ensures)

pub returns-clause-all : goal.returns-clause-all
returns-clause-all c = if_none_known c.why_missing.result (without_value _ c.in_default.is c.in_ok-why.ensures.all)
