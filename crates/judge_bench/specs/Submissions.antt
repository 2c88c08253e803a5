-- The plans that are handed in, and the jobs that they become.

use Rattle.std.specs.Prelude.{ℕ, List, map}
use Rattle.strips_task.specs.declared.plans.Plan.{Plan}
use Rattle.intake_rules.specs.History.{numbered_from}
use Rattle.intake_rules.specs.Jobs.{AcceptedPlan}

-- what is known of a plan that is handed in: whose plan it is, and the plan
pub record SubmissionParts : Type 0 where
  pub planner : ℕ
  pub plan : Plan

-- the plan as the job with this number
abbrev pub job_of : ℕ → SubmissionParts → AcceptedPlan
job_of number submitted = record { number = number; planner = submitted.planner; plan = submitted.plan }

-- the plans as jobs in the same order, numbered from this number on
abbrev pub jobs_from : ℕ → List SubmissionParts → List AcceptedPlan
jobs_from number plans = numbered_from number (map (λ (submitted : SubmissionParts). (submitted.planner, submitted.plan)) plans)
