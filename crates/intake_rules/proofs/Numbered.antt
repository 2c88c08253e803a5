-- Jobs are numbered by their indexes, and those of a planner are in order.

use Rattle.std.proofs.Common.{◌≡◌, ℕ, ◌+◌, ◌<◌, zero, suc, Bool, true, false, List, [], ◌∷◌, ◌++◌, Some, length, slice_get, nat_eq, refl, ap, sym, ◌∙◌, arith, inl, inr, cond}
use Rattle.std.proofs.lemmas.Bool.{eqb-true, cases_Bool, cases_order}
use Rattle.strips_task.specs.declared.plans.Plan.{Plan}
use Rattle.intake_rules.specs.History.{numbered_from}
use Rattle.intake_rules.specs.Intake.{is_of, jobs_of}
use Rattle.intake_rules.specs.Jobs.{AcceptedPlan}
use Rattle.intake_rules.proofs.Pushes.{filter_drops, filter_keeps, slice_get_kept}

pub length-numbered : (n : ℕ) (plans : List (ℕ × Plan)) → length (numbered_from n plans) ≡ length plans
unfolding numbered_from
length-numbered n [] = refl
length-numbered n (plan ∷ plans) = ap suc (length-numbered (suc n) plans)

pub numbered_push : (n : ℕ) (plans : List (ℕ × Plan)) (planner : ℕ) (plan : Plan)
    → numbered_from n (plans ++ (planner, plan) ∷ []) ≡ numbered_from n plans ++ record { number = n + length plans; planner = planner; plan = plan } ∷ []
unfolding numbered_from
numbered_push n [] planner plan = ap (λ k. record { number = k; planner = planner; plan = plan } ∷ []) (let e : n ≡ n + 0 = omega arith in e)
numbered_push n (first ∷ plans) planner plan =
    ap (λ jobs. record { number = n; planner = first.0; plan = first.1 } ∷ jobs)
    (numbered_push (suc n) plans planner plan
    ∙ ap (λ k. numbered_from (suc n) plans ++ record { number = k; planner = planner; plan = plan } ∷ []) (let e : suc n + length plans ≡ n + suc (length plans) = omega arith in e))

pub number_at : (n : ℕ) (plans : List (ℕ × Plan)) (k : ℕ) (job : AcceptedPlan) → slice_get (numbered_from n plans) k ≡ Some job → job.number ≡ n + k
unfolding numbered_from
number_at n [] k job e = cc
number_at n (plan ∷ plans) zero job e =
    let same : record { number = n; planner = plan.0; plan = plan.1 } ≡ job = cc in
    sym (ap (λ (x : AcceptedPlan). x.number) same) ∙ (let f : n ≡ n + 0 = omega arith in f)
number_at n (plan ∷ plans) (suc k) job e = let rest = number_at (suc n) plans k job e in omega arith

-- a job of a planner is the job of its number, and is the planner's
abbrev pub StandsAt : ℕ → List (ℕ × Plan) → ℕ → AcceptedPlan → Type 0
StandsAt n plans planner job = (k : ℕ) → slice_get (jobs_of planner (numbered_from n plans)) k ≡ Some job
    → (i : ℕ) × (job.number ≡ n + i) × (job.planner ≡ planner) × (slice_get (numbered_from n plans) i ≡ Some job)

pub stands_at : (n : ℕ) (plans : List (ℕ × Plan)) (planner : ℕ) (job : AcceptedPlan) → StandsAt n plans planner job
unfolding numbered_from jobs_of
stands_at n [] planner job k e = cc
stands_at n (plan ∷ plans) planner job k e = by (stands_at (suc n) plans planner job) (nat_eq plan.0 planner) refl k e
  where
    first : AcceptedPlan
    first = record { number = n; planner = plan.0; plan = plan.1 }

    later : StandsAt (suc n) plans planner job → (k : ℕ) → slice_get (jobs_of planner (numbered_from (suc n) plans)) k ≡ Some job
        → (i : ℕ) × (job.number ≡ n + i) × (job.planner ≡ planner) × (slice_get (numbered_from n (plan ∷ plans)) i ≡ Some job)
    later rest k e = let (i, number, whose, at) = rest k e in (suc i, omega arith, whose, at)

    by : StandsAt (suc n) plans planner job → (t : Bool) → nat_eq plan.0 planner ≡ t → (k : ℕ) → slice_get (cond t (first ∷ jobs_of planner (numbered_from (suc n) plans)) (jobs_of planner (numbered_from (suc n) plans))) k ≡ Some job
        → (i : ℕ) × (job.number ≡ n + i) × (job.planner ≡ planner) × (slice_get (numbered_from n (plan ∷ plans)) i ≡ Some job)
    by rest true t zero e =
        let same : first ≡ job = cc in (
          0,
          sym (ap (λ (x : AcceptedPlan). x.number) same) ∙ (let f : n ≡ n + 0 = omega arith in f),
          sym (ap (λ (x : AcceptedPlan). x.planner) same) ∙ eqb-true plan.0 planner t,
          ap Some same,
        )
    by rest true t (suc k) e = later rest k e
    by rest false t k e = later rest k e

-- the numbers of a planner's jobs grow
abbrev pub Grow : ℕ → List (ℕ × Plan) → ℕ → AcceptedPlan → AcceptedPlan → Type 0
Grow n plans planner job other = (k l : ℕ) → slice_get (jobs_of planner (numbered_from n plans)) k ≡ Some job
    → slice_get (jobs_of planner (numbered_from n plans)) l ≡ Some other → k < l → job.number < other.number

pub numbers_grow : (n : ℕ) (plans : List (ℕ × Plan)) (planner : ℕ) (job other : AcceptedPlan) → Grow n plans planner job other
unfolding numbered_from jobs_of
numbers_grow n [] planner job other k l e f h = cc
numbers_grow n (plan ∷ plans) planner job other k l e f h =
    by (numbers_grow (suc n) plans planner job other) (nat_eq plan.0 planner) k l e f h
  where
    first : AcceptedPlan
    first = record { number = n; planner = plan.0; plan = plan.1 }

    by : Grow (suc n) plans planner job other → (t : Bool) → (k l : ℕ) → slice_get (cond t (first ∷ jobs_of planner (numbered_from (suc n) plans)) (jobs_of planner (numbered_from (suc n) plans))) k ≡ Some job
        → slice_get (cond t (first ∷ jobs_of planner (numbered_from (suc n) plans)) (jobs_of planner (numbered_from (suc n) plans))) l ≡ Some other → k < l → job.number < other.number
    by grow true zero zero e f h = absurd (omega arith)
    by grow true zero (suc l) e f h =
        let same : first ≡ job = cc in
        let number : n ≡ job.number = ap (λ (x : AcceptedPlan). x.number) same in
        let (i, at, whose, stands) = stands_at (suc n) plans planner other l f in
        omega arith
    by grow true (suc k) zero e f h = absurd (omega arith)
    by grow true (suc k) (suc l) e f h = grow k l e f (omega arith)
    by grow false k l e f h = grow k l e f h

-- two of a planner's jobs with one number have one index
pub one_index : (n : ℕ) (plans : List (ℕ × Plan)) (planner k l : ℕ) (job other : AcceptedPlan) → slice_get (jobs_of planner (numbered_from n plans)) k ≡ Some job
    → slice_get (jobs_of planner (numbered_from n plans)) l ≡ Some other → job.number ≡ other.number → k ≡ l
one_index n plans planner k l job other e f same = elim (cases_order k l) [
  | inl equal ↦ equal
  | inr apart ↦ elim apart [
    | inl less ↦ absurd (let grow = numbers_grow n plans planner job other k l e f less in omega arith)
    | inr more ↦ absurd (let grow = numbers_grow n plans planner other job l k f e more in omega arith)
  ]
]

-- one more job leaves those of a planner at their indexes
pub jobs_of_push : (planner : ℕ) (jobs : List AcceptedPlan) (job other : AcceptedPlan) (k : ℕ) → slice_get (jobs_of planner jobs) k ≡ Some other
    → slice_get (jobs_of planner (jobs ++ job ∷ [])) k ≡ Some other
unfolding jobs_of
jobs_of_push planner jobs job other k e = elim (cases_Bool (is_of planner job)) [
  | inl is ↦ ap (λ xs. slice_get xs k) (filter_keeps (is_of planner) jobs job is) ∙ slice_get_kept (jobs_of planner jobs) job other k e
  | inr not_so ↦ ap (λ xs. slice_get xs k) (filter_drops (is_of planner) jobs job not_so) ∙ e
]
