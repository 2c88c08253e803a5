use Rattle.std.proofs.Common.{◌<◌, ◌↔◌, IsTrue, length, subst, sym, ◌∙◌}
use Rattle.strips_task.specs.declared.tasks.TaskParts.{TaskParts}
use Rattle.strips_task.specs.Types.{IsBelow}
use Rattle.strips_task.proofs.WellFormedParts.{is_below_decides}
use Rattle.strips_task.proofs.tasks.Task.is_subtype.Goals as goal

pub returns-clause-order : goal.returns-clause-order
returns-clause-order c =
    let parts = c.self.inside.parts in
    let known : c.args.sub < length parts.parents = subst (λ (task : TaskParts). c.args.sub < length task.parents) (sym c.self.view_is) c.requires in
    let decides = is_below_decides parts.parents c.self.invariant.types_form_a_tree c.args.sub c.args.sup known in
    subst (λ (task : TaskParts). IsTrue c.is_below.result ↔ IsBelow task.parents c.args.sub c.args.sup) c.self.view_is
    (λ test. decides.0 (sym c.is_below.ensures ∙ test), λ below. c.is_below.ensures ∙ decides.1 below)
