use Rattle.std.proofs.Common.{◌≡◌, None, Some, false, ap, sym, ◌∙◌, subst, refl, arith}
use Rattle.intake_rules.specs.declared.stage.Stage.TheVariants.{Finished}
use Rattle.intake_rules.specs.Findings.{IsRight}
use Rattle.intake_rules.specs.Intake.{with_stage}
use Rattle.intake_rules.specs.Rules.{finish_refusal}
use Rattle.intake_core.specs.Rows.{intake_in, jobs_in, stages_in, waits, waits_at}
use Rattle.intake_core.proofs.Keeping.{kept-idle, kept-as, state-changes, same-intake, length-jobs, rest-of}
use Rattle.intake_core.proofs.Refusing.{IsStored, stored, stage-at}
use Rattle.intake_core.proofs.desk.Desk.store.Goals as goal

pub set_stage-requires : goal.set_stage-requires
set_stage-requires c =
    let job : IsStored (intake_in c.self.inside.table.items c.self.inside.planners.items) c.args.job c.args.finding =
    stored _ c.args.job c.args.finding (subst (λ desk. finish_refusal desk.intake c.args.job c.args.finding ≡ None) (sym c.self.view_is) c.requires.accepted) in
    omega (arith, job.at.known, length-jobs c.self.inside.table.items)

pub invariant_of-self : goal.invariant_of-self
invariant_of-self c =
    let job : IsStored (intake_in c.self.inside.table.items c.self.inside.planners.items) c.args.job c.args.finding =
    stored _ c.args.job c.args.finding (subst (λ desk. finish_refusal desk.intake c.args.job c.args.finding ≡ None) (sym c.self.view_is) c.requires.accepted) in
    let right : IsRight c.self.inside.task.value c.args.finding = subst (λ desk. IsRight desk.task c.args.finding) (sym c.self.view_is) c.requires.right in
    let idle : waits_at (stages_in c.self.inside.table.items) c.args.job ≡ false =
    ap waits (stage-at (intake_in c.self.inside.table.items c.self.inside.planners.items) c.args.job (omega (arith, job.at.known, c.self.invariant.0.staged)) ∙ ap Some job.at.out) in (
      kept-as _ _ _ _ _ _ _ _ _ _ _ c.set_stage.ensures.jobs c.set_stage.ensures.stages c.set_stage.ensures.links refl
          (kept-idle _ _ _ _ _ _ _ c.self.invariant.0 c.args.job (Finished c.args.finding) job.at.known refl idle
          (λ other finding at same. rest-of _ (jobs_in c.self.inside.table.items) c.args.job c.args.finding other finding job.same right at same)),
      omega (arith, c.set_stage.ensures.capacity, c.self.invariant.1),
    )

pub returns : goal.returns
returns c =
    state-changes c.self.inside.task.value c.self.inside.limit (intake_in c.self.inside.table.items c.self.inside.planners.items) _ c.args.self.now (λ intake. with_stage intake c.args.job (Finished c.args.finding))
    (same-intake _ _ c.set_stage.ensures.jobs c.set_stage.ensures.stages refl refl)
    c.self.view_is
