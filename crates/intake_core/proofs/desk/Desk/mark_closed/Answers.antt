use Rattle.std.proofs.Common.{◌≡◌, ◌<◌, None, ap, sym, subst, refl, length, arith}
use Rattle.std.proofs.lemmas.List.{map-set}
use Rattle.std.proofs.Math.Seq.{map-set_same}
use Rattle.intake_rules.specs.Intake.{with_closed}
use Rattle.intake_rules.specs.Rules.{close_refusal}
use Rattle.intake_core.specs.Rows.{intake_in}
use Rattle.intake_core.proofs.Keeping.{kept-planner, state-changes, same-intake, length-closed, row-at}
use Rattle.intake_core.proofs.Refusing.{open-planner}
use Rattle.intake_core.proofs.desk.Desk.mark_closed.Goals as goal

pub invariant_of-self : goal.invariant_of-self
invariant_of-self c =
    let known = open-planner (intake_in c.self.inside.table.items c.self.inside.planners.items) c.args.planner (subst (λ desk. close_refusal desk.intake c.args.planner ≡ None) (sym c.self.view_is) c.requires) in
    let within : c.args.planner < length c.self.inside.planners.items = omega (arith, known, length-closed c.self.inside.planners.items) in
    let line = c.self.invariant.0.lines c.args.planner c.index-row.result.now (row-at _ _ _ within c.index-row.ensures) in
    (kept-planner _ _ _ _ _ _ _ c.self.invariant.0 c.args.planner _ within (record { next = line.next; last = line.last; told = line.told; along = line.along }), c.self.invariant.1)

pub returns : goal.returns
returns c =
    state-changes c.self.inside.task.value c.self.inside.limit (intake_in c.self.inside.table.items c.self.inside.planners.items) _ c.args.self.now (λ intake. with_closed intake c.args.planner)
    (same-intake _ _ refl refl (map-set (λ row. row.closed) c.self.inside.planners.items c.args.planner _)
    (map-set_same (λ row. row.emitted) c.self.inside.planners.items c.args.planner _ c.index-row.result.now (ap (λ row. row.emitted) c.index-row.ensures)))
    c.self.view_is
