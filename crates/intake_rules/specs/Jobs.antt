-- What is known of a job: its number, whose plan it is, and the plan.

use Rattle.std.specs.Prelude.{ℕ, Bool, ◌&&◌, nat_eq}
use Rattle.strips_task.specs.declared.plans.Plan.{Plan}
use Rattle.strips_task.specs.Plans.{plan_eq}

-- a plan that was accepted, with the number of its job and its planner
pub record AcceptedPlan : Type 0 where
  pub number : ℕ
  pub planner : ℕ
  pub plan : Plan

-- the same number, the same planner and the same plan
abbrev pub job_eq : AcceptedPlan → AcceptedPlan → Bool
job_eq a b = nat_eq a.number b.number && (nat_eq a.planner b.planner && plan_eq a.plan b.plan)
