use Rattle.std.proofs.Common.{◌≡◌, ◌<◌, Some, false, ap, sym, ◌∙◌, subst, refl, length, arith, set, add-one, suc}
use Rattle.std.proofs.Math.Seq.{map-set_same}
use Rattle.std.proofs.lemmas.List.{map-set}
use Rattle.std.specs.Prelude.{slice_get}
use Rattle.intake_rules.specs.declared.reply.Reply.TheVariants as reply
use Rattle.intake_rules.specs.declared.stage.Stage.TheVariants.{Emitted}
use Rattle.intake_rules.specs.Findings.{IsRight}
use Rattle.intake_rules.specs.Intake.{next_job, with_emitted}
use Rattle.intake_rules.specs.Rules.{emit_reply}
use Rattle.intake_core.specs.Rows.{intake_in, jobs_in, stages_in, waits, waits_at, IsReady, IsAtRest}
use Rattle.intake_core.proofs.Emitting.{ready, next-is, emitted-of, known-lt, emitted-lt, next-within, next-job-at, link-at, job-at}
use Rattle.intake_core.proofs.Keeping.{kept-idle, kept-planner, kept-as, state-changes, same-intake, length-jobs, row-at}
use Rattle.intake_core.proofs.Lines.{line-emitted}
use Rattle.intake_core.proofs.desk.Desk.give_out.Goals as goal

pub overflow_add-row : goal.overflow_add-row
overflow_add-row c =
    let is : IsReady (intake_in c.self.inside.table.items c.self.inside.planners.items) c.args.planner c.args.number = subst (λ desk. IsReady desk.intake c.args.planner c.args.number) (sym c.self.view_is) c.requires in
    let within : c.args.planner < length c.self.inside.planners.items = known-lt c.self.inside.table.items _ _ is.known in
    let at : slice_get c.self.inside.planners.items c.args.planner ≡ Some c.index-row.result.now = row-at _ _ _ within c.index-row.ensures in
    let line = c.self.invariant.0.lines _ _ at in
    let some : c.index-row.result.now.emitted < length (jobs_in c.self.inside.table.items) =
    emitted-lt _ _ c.args.planner c.args.number _ line (sym (next-is c.self.inside.table.items c.self.inside.planners.items _ _ at line) ∙ is.next) in
    omega (arith, some, c.self.invariant.0.room, c.self.invariant.0.few)

pub index-requires : goal.index-requires
index-requires c =
    let is : IsReady (intake_in c.self.inside.table.items c.self.inside.planners.items) c.args.planner c.args.number = subst (λ desk. IsReady desk.intake c.args.planner c.args.number) (sym c.self.view_is) c.requires in
    omega (arith, next-within (intake_in c.self.inside.table.items c.self.inside.planners.items) _ _ c.self.invariant.0.numbered is.next, length-jobs c.self.inside.table.items)

pub replace_stage-requires : goal.replace_stage-requires
replace_stage-requires c =
    let is : IsReady (intake_in c.self.inside.table.items c.self.inside.planners.items) c.args.planner c.args.number = subst (λ desk. IsReady desk.intake c.args.planner c.args.number) (sym c.self.view_is) c.requires in
    omega (arith, next-within (intake_in c.self.inside.table.items c.self.inside.planners.items) _ _ c.self.invariant.0.numbered is.next, length-jobs c.self.inside.table.items)

pub invariant_of-self : goal.invariant_of-self
invariant_of-self c =
    let is : IsReady (intake_in c.self.inside.table.items c.self.inside.planners.items) c.args.planner c.args.number = subst (λ desk. IsReady desk.intake c.args.planner c.args.number) (sym c.self.view_is) c.requires in
    let within : c.args.planner < length c.self.inside.planners.items = known-lt c.self.inside.table.items _ _ is.known in
    let at : slice_get c.self.inside.planners.items c.args.planner ≡ Some c.index-row.result.now = row-at _ _ _ within c.index-row.ensures in
    let line = c.self.invariant.0.lines _ _ at in
    let job : c.args.number < length (jobs_in c.self.inside.table.items) = next-within (intake_in c.self.inside.table.items c.self.inside.planners.items) _ _ c.self.invariant.0.numbered is.next in
    let idle : waits_at (stages_in c.self.inside.table.items) c.args.number ≡ false = ap waits (c.replace_stage.ensures.was ∙ ap Some c.in-Finished.is) in
    let link = link-at c.self.inside.table.items c.args.number c.index.result.now (omega (arith, job, length-jobs c.self.inside.table.items)) c.index.ensures in (
      kept-as _ _ _ _ _ _ _ _ _ _ _ c.replace_stage.ensures.jobs c.replace_stage.ensures.stages c.replace_stage.ensures.links refl
          (kept-planner _ _ _ _ _ _ _
          (kept-idle _ _ _ _ _ _ _ c.self.invariant.0 c.args.number Emitted job refl idle (λ other finding e same. absurd (cc)))
          c.args.planner _ within
          (line-emitted _ _ c.index-row.result.now c.args.planner c.args.number _ line (sym (next-is c.self.inside.table.items c.self.inside.planners.items _ _ at line) ∙ is.next) link)),
      omega (arith, c.replace_stage.ensures.capacity, c.self.invariant.1),
    )

pub returns-clause-reply : goal.returns-clause-reply
returns-clause-reply c =
    let is : IsReady (intake_in c.self.inside.table.items c.self.inside.planners.items) c.args.planner c.args.number = subst (λ desk. IsReady desk.intake c.args.planner c.args.number) (sym c.self.view_is) c.requires in
    subst (λ desk. emit_reply desk.intake c.args.planner ≡ reply.Emitted c.in-Finished.finding) c.self.view_is
    (ready _ _ _ c.in-Finished.finding is (c.replace_stage.ensures.was ∙ ap Some c.in-Finished.is))

pub returns-clause-state : goal.returns-clause-state
returns-clause-state c =
    let is : IsReady (intake_in c.self.inside.table.items c.self.inside.planners.items) c.args.planner c.args.number = subst (λ desk. IsReady desk.intake c.args.planner c.args.number) (sym c.self.view_is) c.requires in
    let within : c.args.planner < length c.self.inside.planners.items = known-lt c.self.inside.table.items _ _ is.known in
    let at : slice_get c.self.inside.planners.items c.args.planner ≡ Some c.index-row.result.now = row-at _ _ _ within c.index-row.ensures in
    state-changes c.self.inside.task.value c.self.inside.limit (intake_in c.self.inside.table.items c.self.inside.planners.items) _ c.args.self.now (λ intake. with_emitted intake c.args.planner c.args.number)
    (same-intake _ _ c.replace_stage.ensures.jobs c.replace_stage.ensures.stages
    (map-set_same (λ row. row.closed) c.self.inside.planners.items c.args.planner _ c.index-row.result.now (ap (λ row. row.closed) c.index-row.ensures))
    (map-set (λ row. row.emitted) c.self.inside.planners.items c.args.planner _
    ∙ ap (set (intake_in c.self.inside.table.items c.self.inside.planners.items).emitted c.args.planner)
    (add-one c.index-row.result.now.emitted ∙ ap suc (sym (emitted-of c.self.inside.table.items c.self.inside.planners.items _ _ at)))))
    c.self.view_is

pub returns-clause-right : goal.returns-clause-right
returns-clause-right c =
    let is : IsReady (intake_in c.self.inside.table.items c.self.inside.planners.items) c.args.planner c.args.number = subst (λ desk. IsReady desk.intake c.args.planner c.args.number) (sym c.self.view_is) c.requires in
    let job : c.args.number < length (jobs_in c.self.inside.table.items) = next-within (intake_in c.self.inside.table.items c.self.inside.planners.items) _ _ c.self.invariant.0.numbered is.next in
    let rest : IsAtRest c.self.inside.task.value c.index.result.now.job c.in-Finished.finding =
    c.self.invariant.0.at_rest c.args.number c.index.result.now.job c.in-Finished.finding
    (job-at c.self.inside.table.items c.args.number c.index.result.now (omega (arith, job, length-jobs c.self.inside.table.items)) c.index.ensures) (c.replace_stage.ensures.was ∙ ap Some c.in-Finished.is) in
    subst (λ desk. IsRight desk.task c.in-Finished.finding) c.self.view_is rest.right

pub returns-clause-next : goal.returns-clause-next
returns-clause-next c =
    let is : IsReady (intake_in c.self.inside.table.items c.self.inside.planners.items) c.args.planner c.args.number = subst (λ desk. IsReady desk.intake c.args.planner c.args.number) (sym c.self.view_is) c.requires in
    let job : c.args.number < length (jobs_in c.self.inside.table.items) = next-within (intake_in c.self.inside.table.items c.self.inside.planners.items) _ _ c.self.invariant.0.numbered is.next in
    let at = job-at c.self.inside.table.items c.args.number c.index.result.now (omega (arith, job, length-jobs c.self.inside.table.items)) c.index.ensures in
    let rest : IsAtRest c.self.inside.task.value c.index.result.now.job c.in-Finished.finding =
    c.self.invariant.0.at_rest c.args.number c.index.result.now.job c.in-Finished.finding at (c.replace_stage.ensures.was ∙ ap Some c.in-Finished.is) in
    subst (λ desk. next_job desk.intake c.args.planner ≡ Some c.in-Finished.finding.job) c.self.view_is
    (next-job-at (intake_in c.self.inside.table.items c.self.inside.planners.items) _ _ _ c.self.invariant.0.numbered is.next at ∙ ap Some (sym rest.same))
