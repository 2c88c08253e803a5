use Rattle.std.proofs.Common.{◌<◌, length, subst, nat_lt}
use Rattle.std.proofs.lemmas.Bool.{ltb-true}
use Rattle.std.specs.Map.{values_of}
use Rattle.strips_task.specs.declared.tasks.TaskParts.{TaskParts}
use Rattle.strips_task.proofs.WellFormedParts.{passes_at, value_at}
use Rattle.strips_task.proofs.tasks.Task.object_type.Goals as goal

pub returns-clause-known : goal.returns-clause-known
returns-clause-known c =
    let parts = c.self.inside.parts in
    let value = value_at parts.objects c.from.result c.get.result.0.now c.get.result.1.now c.get.ensures in
    subst (λ (task : TaskParts). c.get.result.1.now < length task.parents) c.self.view_is
    (ltb-true c.get.result.1.now (length parts.parents)
    (passes_at (λ type. nat_lt type (length parts.parents)) (values_of parts.objects) c.from.result c.get.result.1.now c.self.invariant.objects_typed value))
