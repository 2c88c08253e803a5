use Rattle.std.proofs.Common.{◌≡◌, None, sym, subst, refl, arith}
use Rattle.intake_rules.specs.declared.stage.Stage.TheVariants.{Waiting}
use Rattle.intake_rules.specs.Intake.{with_stage}
use Rattle.intake_rules.specs.Rules.{hand_back_refusal}
use Rattle.intake_core.specs.Rows.{intake_in}
use Rattle.intake_core.proofs.Keeping.{kept-waiting, kept-as, state-changes, same-intake, length-jobs}
use Rattle.intake_core.proofs.Refusing.{IsOutAt, out-at}
use Rattle.intake_core.proofs.desk.Desk.put_back.Goals as goal

pub set_stage-requires : goal.set_stage-requires
set_stage-requires c =
    let out : IsOutAt (intake_in c.self.inside.table.items c.self.inside.planners.items) c.args.job =
    out-at _ c.args.job (subst (λ desk. hand_back_refusal desk.intake c.args.job ≡ None) (sym c.self.view_is) c.requires) in
    omega (arith, out.known, length-jobs c.self.inside.table.items)

pub set_bit-requires : goal.set_bit-requires
set_bit-requires c =
    let out : IsOutAt (intake_in c.self.inside.table.items c.self.inside.planners.items) c.args.job =
    out-at _ c.args.job (subst (λ desk. hand_back_refusal desk.intake c.args.job ≡ None) (sym c.self.view_is) c.requires) in
    omega (arith, out.known, c.self.invariant.0.room, c.self.invariant.0.few)

pub invariant_of-self : goal.invariant_of-self
invariant_of-self c =
    let out : IsOutAt (intake_in c.self.inside.table.items c.self.inside.planners.items) c.args.job =
    out-at _ c.args.job (subst (λ desk. hand_back_refusal desk.intake c.args.job ≡ None) (sym c.self.view_is) c.requires) in (
      kept-as _ _ _ _ _ _ _ _ _ _ _ c.set_stage.ensures.jobs c.set_stage.ensures.stages c.set_stage.ensures.links refl
          (kept-waiting _ _ _ _ _ _ _ c.self.invariant.0 c.args.job Waiting _ out.known c.set_bit.ensures.changed (λ finding e. cc)),
      omega (arith, c.set_stage.ensures.capacity, c.self.invariant.1),
    )

pub returns : goal.returns
returns c =
    state-changes c.self.inside.task.value c.self.inside.limit (intake_in c.self.inside.table.items c.self.inside.planners.items) _ c.args.self.now (λ intake. with_stage intake c.args.job Waiting)
    (same-intake _ _ c.set_stage.ensures.jobs c.set_stage.ensures.stages refl refl)
    c.self.view_is
