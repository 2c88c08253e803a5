-- Jobs that compare as the same are the same.

use Rattle.std.proofs.Common.{◌≡◌, ◌↔◌, ◌&&◌, Bool, true, false, refl, ap, sym, ◌∙◌, nat_eq}
use Rattle.std.specs.Cmp.{unsigned_Decides}
use mathlib.Core.Bool.{true≢false}
use Rattle.strips_task.specs.Plans.{plan_eq}
use Rattle.strips_task.specs.PlanEquality.{plan_same, plans_equivalence}
use Rattle.intake_rules.specs.Jobs.{AcceptedPlan, job_eq}

both : (a b : Bool) → (a && b) ≡ true → (a ≡ true) × (b ≡ true)
both true b h = (refl, h)
both false b h = absurd (true≢false (sym h))

pub same_from_test : (a b : AcceptedPlan) → job_eq a b ≡ true → a ≡ b
same_from_test a b h =
    let (number, rest) = both (nat_eq a.number b.number) (nat_eq a.planner b.planner && plan_eq a.plan b.plan) h in
    let (planner, plan) = both (nat_eq a.planner b.planner) (plan_eq a.plan b.plan) rest in
    let numbers = (unsigned_Decides a.number b.number).0 number in
    let planners = (unsigned_Decides a.planner b.planner).0 planner in
    let plans = plan_same a.plan b.plan plan in
    λ i. record { number = numbers i; planner = planners i; plan = plans i }

pub test_itself : (a : AcceptedPlan) → job_eq a a ≡ true
test_itself a =
    ap (λ (t : Bool). t && (nat_eq a.planner a.planner && plan_eq a.plan a.plan)) ((unsigned_Decides a.number a.number).1 refl)
    ∙ ap (λ (t : Bool). t && plan_eq a.plan a.plan) ((unsigned_Decides a.planner a.planner).1 refl)
    ∙ plans_equivalence.refl a.plan

pub compares_jobs : (a b : AcceptedPlan) → (job_eq a b ≡ true) ↔ (a ≡ b)
compares_jobs a b = (same_from_test a b, λ e. ap (λ (x : AcceptedPlan). job_eq a x) (sym e) ∙ test_itself a)
