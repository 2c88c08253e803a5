use Rattle.std.proofs.Common.{◌≡◌, ◌<◌, ◌∷◌, ◌++◌, [], None, ap, sym, ◌∙◌, subst, length, arith, set}
use Rattle.std.proofs.Math.Seq.{map-set_same}
use Rattle.intake_rules.specs.Jobs.{AcceptedPlan}
use Rattle.intake_rules.specs.Intake.{with_job}
use Rattle.intake_rules.specs.Rules.{submit_refusal}
use Rattle.intake_core.specs.Rows.{intake_in, jobs_in}
use Rattle.intake_core.proofs.Keeping.{kept-accept, kept-as, state-changes, same-intake, length-jobs, length-closed, row-at, last-within, jobs-pushed, stages-pushed, links-pushed}
use Rattle.intake_core.proofs.Refusing.{IsAccepted, accepted}
use Rattle.intake_core.proofs.desk.Desk.accept.Goals as goal

pub link-requires : goal.link-requires
link-requires c =
    let free : IsAccepted c.self.inside.limit (intake_in c.self.inside.table.items c.self.inside.planners.items) c.args.planner =
    accepted _ _ _ (subst (λ desk. submit_refusal desk.slots desk.intake c.args.planner ≡ None) (sym c.self.view_is) c.requires) in
    let within : c.args.planner < length c.self.inside.planners.items = omega (arith, free.known, length-closed c.self.inside.planners.items) in
    let line = c.self.invariant.0.lines c.args.planner c.index-row.result.now (row-at _ _ _ within c.index-row.ensures) in
    last-within _ _ _ _ _ c.self.invariant.0.numbered (c.self.inside.table.ok.0 ∙ sym (length-jobs c.self.inside.table.items)) line

pub set_bit-requires : goal.set_bit-requires
set_bit-requires c =
    let free : IsAccepted c.self.inside.limit (intake_in c.self.inside.table.items c.self.inside.planners.items) c.args.planner =
    accepted _ _ _ (subst (λ desk. submit_refusal desk.slots desk.intake c.args.planner ≡ None) (sym c.self.view_is) c.requires) in
    omega (arith, free.room, c.self.invariant.0.room, c.self.invariant.0.few, c.len-number.ensures, c.self.inside.table.ok.0, length-jobs c.self.inside.table.items)

pub invariant_of-self : goal.invariant_of-self
invariant_of-self c =
    let free : IsAccepted c.self.inside.limit (intake_in c.self.inside.table.items c.self.inside.planners.items) c.args.planner =
    accepted _ _ _ (subst (λ desk. submit_refusal desk.slots desk.intake c.args.planner ≡ None) (sym c.self.view_is) c.requires) in
    let within : c.args.planner < length c.self.inside.planners.items = omega (arith, free.known, length-closed c.self.inside.planners.items) in
    let number : c.len-number.result ≡ length (jobs_in c.self.inside.table.items) = c.len-number.ensures ∙ c.self.inside.table.ok.0 ∙ sym (length-jobs c.self.inside.table.items) in
    let job : AcceptedPlan = record { number = c.len-number.result; planner = c.args.planner; plan = c.args.plan } in (
      kept-as _ _ _ _ _ _ _ _ _ _ _
          (jobs-pushed _ _ _ c.add.ensures.rows _ c.link.ensures.jobs) (stages-pushed _ _ _ c.add.ensures.rows _ c.link.ensures.stages) (links-pushed _ _ _ c.add.ensures.rows _ c.link.ensures.links)
          (ap (set c.self.inside.planners.items c.args.planner) c.joined.ensures)
          (kept-accept _ _ _ _ _ _ _ c.self.invariant.0 job c.index-row.result.now _ c.set_bit.ensures.changed number (omega (arith, free.room, c.self.invariant.0.room)) (row-at _ _ _ within c.index-row.ensures)),
      omega (arith, c.add.ensures.capacity, c.link.ensures.capacity, c.self.invariant.1),
    )

pub returns-clause-state : goal.returns-clause-state
returns-clause-state c =
    let number : c.len-number.result ≡ length (jobs_in c.self.inside.table.items) = c.len-number.ensures ∙ c.self.inside.table.ok.0 ∙ sym (length-jobs c.self.inside.table.items) in
    state-changes c.self.inside.task.value c.self.inside.limit (intake_in c.self.inside.table.items c.self.inside.planners.items) _ c.args.self.now (λ intake. with_job intake c.args.planner c.args.plan)
    (same-intake _ _
    (jobs-pushed _ _ _ c.add.ensures.rows _ c.link.ensures.jobs
    ∙ ap (λ n. jobs_in c.self.inside.table.items ++ record { number = n; planner = c.args.planner; plan = c.args.plan } ∷ []) number)
    (stages-pushed _ _ _ c.add.ensures.rows _ c.link.ensures.stages)
    (map-set_same (λ row. row.closed) c.self.inside.planners.items c.args.planner _ c.index-row.result.now (ap (λ row. row.closed) c.joined.ensures ∙ ap (λ row. row.closed) c.index-row.ensures))
    (map-set_same (λ row. row.emitted) c.self.inside.planners.items c.args.planner _ c.index-row.result.now (ap (λ row. row.emitted) c.joined.ensures ∙ ap (λ row. row.emitted) c.index-row.ensures)))
    c.self.view_is
