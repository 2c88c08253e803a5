use Rattle.std.proofs.Common.{◌≡◌, ◌∙◌, Option, Some, None, IfNone, ap, slice_get, sym}
use Rattle.std.specs.Prelude.{option_and_then}
use Rattle.std.specs.Map.{values_of}
use Rattle.std.specs.Option.{option_or}
use Rattle.strips_task.specs.declared.actions.Action.{Action}
use Rattle.strips_task.specs.declared.tasks.TaskParts.{TaskParts}
use Rattle.strips_task.specs.Names.{number_named}
use Rattle.strips_task.specs.StepView.{step_shown}
use Rattle.strips_judge.specs.NumberedState.{state_of}
use Rattle.strips_judge.specs.Step.{action_named, after_by, conditions_by, fault_by, missing, missing_why, objects_named}
use Rattle.strips_judge.proofs.VerdictLaws.{success_as}
use Rattle.strips_judge.proofs.judging.take_step.Goals as goal
use Rattle.strips_judge.proofs.judging.take_step.Goals.{After-take_action}

none_as : {X P Q : Type 0} (o : Option X) → (P → Q) → IfNone o P → IfNone o Q
none_as None f p = f p
none_as (Some x) f p = tt

pub returns-in-Some-clause-why : goal.returns-in-Some-clause-why
returns-in-Some-clause-why c =
    let task = c.args.task.now in
    let step = step_shown c.args.step in
    let state = state_of c.args.state.now in
    let number : Some c.in-Some.number ≡ number_named task.actions step.action =
    sym c.in-Some.is ∙ c.action_named.ensures.number ∙ (λ j. number_named (c.task.ensures j).actions (c.action.ensures j)) in
    let named : action_named task step.action ≡ Some c.action-action.result.now =
    ap (option_and_then (slice_get (values_of task.actions))) (sym number)
    ∙ ap (λ (parts : TaskParts). slice_get (values_of parts.actions) c.in-Some.number) (sym c.task-in-Some.ensures) ∙ c.action-action.ensures.action in
    success_as _ _ c.take_action.result
    (λ why is. is ∙ ap (λ (o : Option Action). option_or (fault_by task o step.args) (missing_why (missing task state (conditions_by (objects_named task step.args) o)))) (sym named))
    c.take_action.ensures.why

pub returns-in-Some-clause-next : goal.returns-in-Some-clause-next
returns-in-Some-clause-next c =
    let task = c.args.task.now in
    let step = step_shown c.args.step in
    let state = state_of c.args.state.now in
    let number : Some c.in-Some.number ≡ number_named task.actions step.action =
    sym c.in-Some.is ∙ c.action_named.ensures.number ∙ (λ j. number_named (c.task.ensures j).actions (c.action.ensures j)) in
    let named : action_named task step.action ≡ Some c.action-action.result.now =
    ap (option_and_then (slice_get (values_of task.actions))) (sym number)
    ∙ ap (λ (parts : TaskParts). slice_get (values_of parts.actions) c.in-Some.number) (sym c.task-in-Some.ensures) ∙ c.action-action.ensures.action in
    success_as _ _ c.take_action.result
    (λ why. none_as why (λ is. is ∙ ap (λ (o : Option Action). after_by task (objects_named task step.args) state o) (sym named)))
    c.take_action.ensures.next
