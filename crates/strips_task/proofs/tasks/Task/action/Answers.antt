use Rattle.std.proofs.Common.{length, subst}
use Rattle.std.specs.Map.{values_of}
use Rattle.strips_task.specs.declared.tasks.TaskParts.{TaskParts}
use Rattle.strips_task.specs.WellFormed.{is_action}
use Rattle.strips_task.specs.Within.{IsActionWithin}
use Rattle.strips_task.proofs.WellFormedParts.{passes_at, action_within, value_at}
use Rattle.strips_task.proofs.tasks.Task.action.Goals as goal

pub returns-clause-within : goal.returns-clause-within
returns-clause-within c =
    let parts = c.self.inside.parts in
    let value = value_at parts.actions c.from.result c.get.result.0.now c.get.result.1.now c.get.ensures in
    subst (λ (task : TaskParts). IsActionWithin (length task.parents) c.get.result.1.now) c.self.view_is
    (action_within parts c.get.result.1.now
    (passes_at (is_action parts) (values_of parts.actions) c.from.result c.get.result.1.now c.self.invariant.actions_fit value))
