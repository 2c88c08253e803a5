use Rattle.std.proofs.Common.{rules, ◌≡◌, ◌<◌, Some, None, length, slice_get, ap, ◌∙◌, subst, arith}
use Rattle.std.proofs.lemmas.List.{length-map}
use Rattle.intake_rules.specs.Intake.{next_job}
use Rattle.intake_rules.specs.Jobs.{AcceptedPlan}
use Rattle.bench_rule.specs.Views.{IsNext, planners_of, rank}
use Rattle.judge_bench.specs.Seats.{SeatFacts, accepted_intake}
use Rattle.judge_bench.proofs.Cursors.{looked_through}
use Rattle.judge_bench.proofs.NextJobs.{next_by_count, no_next}
use Rattle.judge_bench.proofs.owner.Owner.next_slot.Goals as goal

pub returns-then-slot-jobs-clause-next : goal.returns-then-slot-jobs-clause-next
returns-then-slot-jobs-clause-next c =
    let inside : c.args.planner < length c.self.inside.seat.me.0.emitted = search (rules, arith) in
    let counted = looked_through _ _ _ _ c.args.planner _ _ _ c.self.invariant.0.cursors_are c.deref.ensures.value inside c.index.ensures c.first_of-slot.ensures.between in
    let all : c.first_of-slot.result ≡ length c.self.inside.seat.me.0.jobs = c.if-slot-jobs.true ∙ c.jobs.ensures in
    subst (λ (s : SeatFacts). next_job (accepted_intake s.view) c.args.planner ≡ None) c.self.view_is
    (no_next c.self.inside.seat.me.0 c.args.planner (omega (arith, ap (rank c.self.inside.seat.me.0.jobs c.args.planner) all, counted)))

pub returns-clause-next : goal.returns-clause-next
returns-clause-next c =
    let inside : c.args.planner < length c.self.inside.seat.me.0.emitted = search (rules, arith) in
    let counted = looked_through _ _ _ _ c.args.planner _ _ _ c.self.invariant.0.cursors_are c.deref.ensures.value inside c.index.ensures c.first_of-slot.ensures.between in
    let whose = c.deref.ensures.value ∙ c.self.invariant.0.cursors_are.planners_are in
    let long = ap length whose ∙ length-map c.self.inside.seat.me.0.jobs (λ (job : AcceptedPlan). job.planner) in
    let there : slice_get (planners_of c.self.inside.seat.me.0.jobs) c.first_of-slot.result ≡ Some c.args.planner =
    subst (λ planners. slice_get planners c.first_of-slot.result ≡ Some c.args.planner) whose (c.first_of-slot.ensures.found (omega (arith, c.first_of-slot.ensures.within.1, c.if-slot-jobs.false, c.jobs.ensures, long))) in
    subst (λ (s : SeatFacts). (job : AcceptedPlan) × IsNext s.view c.first_of-slot.result job × (job.planner ≡ c.args.planner) × (job.number ≡ c.first_of-slot.result)) c.self.view_is
    (next_by_count c.self.inside.seat.me.0 c.first_of-slot.result c.args.planner c.self.invariant.0.numbered there counted inside)
