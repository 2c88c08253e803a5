use Rattle.std.proofs.Common.{◌≡◌, Some, slice_get, sym, ap, subst, ◌∙◌, arith, take, drop, length, ◌-◌, get_or}
use Rattle.std.specs.List.{position_from, zip}
use Rattle.std.proofs.lemmas.Slice.{first_rest}
use Rattle.std.specs.Map.{values_of}
use Rattle.strips_task.specs.declared.tasks.TaskParts.{TaskParts}
use Rattle.strips_judge.specs.Step.{is_ill_typed}
use Rattle.strips_judge.specs.StepNumbers.{IsNumbered}
use Rattle.strips_judge.proofs.NumberedSteps.{bound_objects, bound_faultless}
use Rattle.step_codes.proofs.numbered_steps.bound.Goals as goal

pub returns-in-None-clause-faultless : goal.returns-in-None-clause-faultless
returns-in-None-clause-faultless c = λ step is.
    let numbers = c.args.numbers.now in
    let objects = take (length numbers - 1) (drop 1 numbers) in
    let parted = subst (IsNumbered c.args.task.now step) (first_rest numbers 0 (omega (arith, c.in-len1-up.len_at_least))) is in
    bound_faultless c.args.task.now step (get_or numbers 0 0) objects parted c.action-action.result.now
    (subst (λ (parts : TaskParts). slice_get (values_of parts.actions) (get_or numbers 0 0) ≡ Some c.action-action.result.now) c.task-task.ensures c.action-action.ensures.action)
    (c.if-objects-len.false ∙ c.len.ensures)
    (ap (λ params. position_from (is_ill_typed c.args.task.now) 1 (zip params objects)) (sym c.as_slice.ensures) ∙ ap (λ (parts : TaskParts). position_from (is_ill_typed parts) 1 (zip c.as_slice.result.now objects)) (sym c.task-task.ensures) ∙ sym c.first_ill_typed.ensures ∙ c.in-None.is)

pub returns-in-None-clause-objects : goal.returns-in-None-clause-objects
returns-in-None-clause-objects c = λ step is.
    let numbers = c.args.numbers.now in
    let objects = take (length numbers - 1) (drop 1 numbers) in
    bound_objects c.args.task.now step (get_or numbers 0 0) objects
    (subst (IsNumbered c.args.task.now step) (first_rest numbers 0 (omega (arith, c.in-len1-up.len_at_least))) is)
