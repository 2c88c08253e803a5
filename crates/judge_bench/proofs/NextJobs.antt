-- A planner's next job, by the count of its jobs before a slot and by the list of its jobs.

use Rattle.std.proofs.Common.{◌≡◌, ◌<◌, ◌≤◌, ℕ, zero, suc, ◌+◌, Bool, true, false, cond, List, [], ◌∷◌, length, slice_get, slice_index, Some, refl, sym, ap, ◌∙◌, subst, arith}
use Rattle.std.specs.Prelude.{None, if◌then◌else◌}
use Rattle.std.specs.List.{filter}
use Rattle.std.proofs.lemmas.Option.{slice_get_past}
use Rattle.std.proofs.lemmas.Bool.{lt-ltb}
use Rattle.intake_rules.specs.declared.refusal.Refusal.TheVariants.{NoPlanner, NotReady}
use Rattle.intake_rules.specs.declared.reply.Reply.TheVariants.{Refused}
use Rattle.intake_rules.specs.Intake.{has_planner, is_of, jobs_of, next_job}
use Rattle.intake_rules.specs.Jobs.{AcceptedPlan}
use Rattle.intake_rules.specs.Rules.{emit_reply, emit_reply_of}
use Rattle.bench_rule.specs.declared.views.View.{View}
use Rattle.bench_rule.specs.Views.{IsNext, one_if, planners_of, rank}
use Rattle.bench_rule.proofs.Ranks.{job_by_rank}
use Rattle.judge_bench.specs.Bookkeeping.{Numbered}
use Rattle.judge_bench.specs.Seats.{accepted_intake}

-- a planner has as many jobs as are counted among all jobs
all_counted : (planner : ℕ) (jobs : List AcceptedPlan) → length (jobs_of planner jobs) ≡ rank jobs planner (length jobs)
unfolding jobs_of
all_counted planner [] = refl
all_counted planner (x ∷ xs) = by (is_of planner x) (all_counted planner xs)
  where
    by : (test : Bool) → length (filter (is_of planner) xs) ≡ rank xs planner (length xs) → length (cond test (x ∷ filter (is_of planner) xs) (filter (is_of planner) xs)) ≡ one_if test + rank xs planner (length xs)
    by true e = omega arith
    by false e = omega arith

pub no_next : (view : View) (planner : ℕ) → rank view.jobs planner (length view.jobs) ≤ slice_index view.emitted planner → next_job (accepted_intake view) planner ≡ None
no_next view planner h = slice_get_past (jobs_of planner view.jobs) (slice_index view.emitted planner) (let all = all_counted planner view.jobs in omega arith)

pub next_is : (view : View) (slot planner : ℕ) (job : AcceptedPlan) → IsNext view slot job → job.planner ≡ planner → next_job (accepted_intake view) planner ≡ Some job
next_is view slot planner job next his =
    let counted : rank view.jobs planner slot ≡ slice_index view.emitted planner = subst (λ p. rank view.jobs p slot ≡ slice_index view.emitted p) his next.next in
    ap (λ k. slice_get (jobs_of planner view.jobs) k) (sym counted) ∙ job_by_rank view.jobs slot planner job next.job_of_slot his

job_there : (jobs : List AcceptedPlan) (slot planner : ℕ) → slice_get (planners_of jobs) slot ≡ Some planner → (job : AcceptedPlan) × (slice_get jobs slot ≡ Some job) × (job.planner ≡ planner)
job_there [] slot planner e = cc
job_there (x ∷ xs) zero planner e = (x, refl, cc)
job_there (x ∷ xs) (suc slot) planner e = job_there xs slot planner e

-- a job of the planner before which it has as many jobs as findings were emitted
pub next_by_count : (view : View) (slot planner : ℕ) → Numbered view.jobs → slice_get (planners_of view.jobs) slot ≡ Some planner → rank view.jobs planner slot ≡ slice_index view.emitted planner → planner < length view.emitted
    → (job : AcceptedPlan) × IsNext view slot job × (job.planner ≡ planner) × (job.number ≡ slot)
next_by_count view slot planner numbered there counted inside = let (job, at, his) = job_there view.jobs slot planner there in
    (job, record { job_of_slot = at; next = subst (λ p. rank view.jobs p slot ≡ slice_index view.emitted p) (sym his) counted; planner_within = subst (λ p. p < length view.emitted) (sym his) inside }, his, numbered slot job at)

-- and for one whose next job is not known to be finished
pub not_ready_reply : (view : View) (planner slot : ℕ) (job : AcceptedPlan) → planner < length view.closed → next_job (accepted_intake view) planner ≡ Some job → job.number ≡ slot
    → emit_reply (accepted_intake view) planner ≡ Refused (NotReady slot)
not_ready_reply view planner slot job inside next number = let known : has_planner (accepted_intake view) planner ≡ true = lt-ltb planner (length view.closed) inside in
    ap (λ b. if b then emit_reply_of (accepted_intake view) planner (next_job (accepted_intake view) planner) else Refused NoPlanner) known
    ∙ (ap (emit_reply_of (accepted_intake view) planner) next ∙ ap (λ n. Refused (NotReady n)) number)
