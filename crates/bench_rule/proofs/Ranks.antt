-- How many of the first jobs are a planner's.

use Rattle.std.proofs.Common.{◌≡◌, ◌≤◌, ℕ, zero, suc, ◌+◌, Bool, true, false, cond, eqb, eq-eqb, List, [], ◌∷◌, ◌++◌, slice_get, Some, length, refl, ap, ◌∙◌, arith}
use Rattle.std.specs.List.{filter}
use Rattle.intake_rules.specs.Intake.{is_of, jobs_of}
use Rattle.intake_rules.specs.Jobs.{AcceptedPlan}
use Rattle.bench_rule.specs.Views.{one_if, rank}

pub rank_push : (jobs : List AcceptedPlan) (job : AcceptedPlan) (planner count : ℕ) → count ≤ length jobs → rank (jobs ++ job ∷ []) planner count ≡ rank jobs planner count
rank_push [] job planner zero h = refl
rank_push [] job planner (suc count) h = absurd (omega arith)
rank_push (x ∷ xs) job planner zero h = refl
rank_push (x ∷ xs) job planner (suc count) h = ap (λ n. one_if (eqb x.planner planner) + n) (rank_push xs job planner count (omega arith))

pub rank_grows : (jobs : List AcceptedPlan) (job : AcceptedPlan) (planner : ℕ) → rank jobs planner (length jobs) ≤ rank (jobs ++ job ∷ []) planner (length (jobs ++ job ∷ []))
rank_grows [] job planner = omega arith
rank_grows (x ∷ xs) job planner = omega (arith, rank_grows xs job planner)

-- a job of the planner is counted among the jobs up to it
pub rank_below : (jobs : List AcceptedPlan) (slot planner : ℕ) (job : AcceptedPlan) → slice_get jobs slot ≡ Some job → job.planner ≡ planner → rank jobs planner slot + 1 ≤ rank jobs planner (length jobs)
rank_below [] slot planner job e mine = cc
rank_below (x ∷ xs) zero planner job e mine = let same : x ≡ job = cc in let one = ap one_if (eq-eqb x.planner planner (ap (λ (z : AcceptedPlan). z.planner) same ∙ mine)) in omega arith
rank_below (x ∷ xs) (suc slot) planner job e mine = omega (arith, rank_below xs slot planner job e mine)

-- two jobs of a planner before which it has as many jobs are one job
pub rank_once : (jobs : List AcceptedPlan) (i j planner : ℕ) (one other : AcceptedPlan) → slice_get jobs i ≡ Some one → slice_get jobs j ≡ Some other → one.planner ≡ planner → other.planner ≡ planner → rank jobs planner i ≡ rank jobs planner j → i ≡ j
rank_once [] i j planner one other e f mine too same = cc
rank_once (x ∷ xs) zero zero planner one other e f mine too same = refl
rank_once (x ∷ xs) zero (suc j) planner one other e f mine too same = let is : x ≡ one = cc in let here = ap one_if (eq-eqb x.planner planner (ap (λ (z : AcceptedPlan). z.planner) is ∙ mine)) in absurd (omega arith)
rank_once (x ∷ xs) (suc i) zero planner one other e f mine too same = let is : x ≡ other = cc in let here = ap one_if (eq-eqb x.planner planner (ap (λ (z : AcceptedPlan). z.planner) is ∙ too)) in absurd (omega arith)
rank_once (x ∷ xs) (suc i) (suc j) planner one other e f mine too same = ap suc (rank_once xs i j planner one other e f mine too (omega arith))

-- the planner's job of this rank
pub job_by_rank : (jobs : List AcceptedPlan) (slot planner : ℕ) (job : AcceptedPlan) → slice_get jobs slot ≡ Some job → job.planner ≡ planner → slice_get (jobs_of planner jobs) (rank jobs planner slot) ≡ Some job
unfolding jobs_of
job_by_rank [] slot planner job there his = cc
job_by_rank (x ∷ xs) zero planner job there his = let is : x ≡ job = cc in let test : is_of planner x ≡ true = eq-eqb x.planner planner (ap (λ (z : AcceptedPlan). z.planner) is ∙ his) in
    ap (λ b. slice_get (cond b (x ∷ filter (is_of planner) xs) (filter (is_of planner) xs)) 0) test ∙ there
job_by_rank (x ∷ xs) (suc slot) planner job there his = by (is_of planner x) (job_by_rank xs slot planner job there his)
  where
    by : (test : Bool) → slice_get (filter (is_of planner) xs) (rank xs planner slot) ≡ Some job → slice_get (cond test (x ∷ filter (is_of planner) xs) (filter (is_of planner) xs)) (one_if test + rank xs planner slot) ≡ Some job
    by true e = let next : 1 + rank xs planner slot ≡ suc (rank xs planner slot) = omega arith in ap (λ k. slice_get (x ∷ filter (is_of planner) xs) k) next ∙ e
    by false e = let same : 0 + rank xs planner slot ≡ rank xs planner slot = omega arith in ap (λ k. slice_get (filter (is_of planner) xs) k) same ∙ e
