-- The jobs of a planner among all jobs.

use Rattle.std.proofs.Common.{◌≡◌, ℕ, zero, suc, Bool, true, false, List, [], ◌∷◌, ◌++◌, Some, map, nat_eq, cond, refl, ap, sym, ◌∙◌, arith}
use Rattle.std.specs.Prelude.{slice_get}
use Rattle.std.proofs.lemmas.Bool.{eqb-true}
use Rattle.std.proofs.lemmas.List.Elements.{filter-append}
use Rattle.strips_task.specs.declared.costs.CostedTask.{CostedTask}
use Rattle.intake_rules.specs.declared.finding.Finding.{Finding}
use Rattle.intake_rules.specs.Intake.{is_of, jobs_of}
use Rattle.intake_rules.specs.Jobs.{AcceptedPlan}
use Rattle.judge_bench.specs.Findings.{of_planner}
use Rattle.intake_rules.specs.Findings.{right_finding}
use Rattle.intake_rules.proofs.Numbered.{number_at}
use Rattle.judge_bench.specs.Bookkeeping.{Numbered}
use Rattle.judge_bench.specs.Submissions.{SubmissionParts, jobs_from}

pub jobs_of-append : (planner : ℕ) (jobs more : List AcceptedPlan) → jobs_of planner (jobs ++ more) ≡ jobs_of planner jobs ++ jobs_of planner more
unfolding jobs_of
jobs_of-append planner jobs more = filter-append (is_of planner) jobs more

-- a job of a planner is the planner's, and one of all jobs
abbrev IsAmong : ℕ → List AcceptedPlan → AcceptedPlan → Type 0
IsAmong planner jobs job = (slot : ℕ) × (job.planner ≡ planner) × (slice_get jobs slot ≡ Some job)

pub its_slot : (planner : ℕ) (jobs : List AcceptedPlan) (index : ℕ) (job : AcceptedPlan) → slice_get (jobs_of planner jobs) index ≡ Some job → IsAmong planner jobs job
unfolding jobs_of
its_slot planner [] index job at = cc
its_slot planner (first ∷ jobs) index job at = by (its_slot planner jobs) (is_of planner first) refl index at
  where
    later : IsAmong planner jobs job → IsAmong planner (first ∷ jobs) job
    later (slot, whose, is) = (suc slot, whose, is)

    by : ((index : ℕ) (job : AcceptedPlan) → slice_get (jobs_of planner jobs) index ≡ Some job → IsAmong planner jobs job) → (b : Bool) → is_of planner first ≡ b → (index : ℕ)
        → slice_get (cond b (first ∷ jobs_of planner jobs) (jobs_of planner jobs)) index ≡ Some job → IsAmong planner (first ∷ jobs) job
    by rest true is zero at =
        let same : first ≡ job = cc in
        (zero, sym (ap (λ (x : AcceptedPlan). x.planner) same) ∙ eqb-true first.planner planner is, at)
    by rest true is (suc index) at = later (rest index job at)
    by rest false is index at = later (rest index job at)

pub planner_of_next : (planner : ℕ) (jobs : List AcceptedPlan) (index : ℕ) (job : AcceptedPlan) → slice_get (jobs_of planner jobs) index ≡ Some job → job.planner ≡ planner
planner_of_next planner jobs index job at = (its_slot planner jobs index job at).1

-- the right findings of a planner's jobs are those of all jobs that are the planner's
pub found_of : (task : CostedTask) (planner : ℕ) (jobs : List AcceptedPlan) → of_planner (map (right_finding task) jobs) planner ≡ map (right_finding task) (jobs_of planner jobs)
unfolding jobs_of
found_of task planner [] = refl
found_of task planner (job ∷ jobs) = by (nat_eq job.planner planner) (of_planner (map (right_finding task) jobs) planner) (jobs_of planner jobs) (found_of task planner jobs)
  where
    by : (b : Bool) (found : List Finding) (of_it : List AcceptedPlan) → found ≡ map (right_finding task) of_it
        → cond b (right_finding task job ∷ found) found ≡ map (right_finding task) (cond b (job ∷ of_it) of_it)
    by true found of_it is = ap (λ l. right_finding task job ∷ l) is
    by false found of_it is = is

-- plans as jobs are numbered by their indexes
pub numbered_from_zero : (plans : List SubmissionParts) → Numbered (jobs_from 0 plans)
numbered_from_zero plans index job at =
    let e = number_at 0 (map (λ (p : SubmissionParts). (p.planner, p.plan)) plans) index job at in omega arith
