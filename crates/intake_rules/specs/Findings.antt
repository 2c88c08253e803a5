-- When a finding is right.

use Rattle.std.specs.Prelude.{◌≡◌}
use Rattle.strips_task.specs.declared.plans.Plan.{Plan}
use Rattle.strips_judge.specs.declared.verdict.Verdict.{Verdict}
use Rattle.plan_cost.specs.declared.costs.Cost.{Cost}
use Rattle.strips_task.specs.declared.costs.CostedTask.{CostedTask}
use Rattle.plan_cost.specs.Assessments.{assessment}
use Rattle.intake_rules.specs.declared.finding.Finding.{Finding}
use Rattle.intake_rules.specs.Jobs.{AcceptedPlan}

-- the verdict of a plan; proofs about accepting plans and giving them out never have to unfold this name
unfoldable pub verdict_of : CostedTask → Plan → Verdict
verdict_of task plan = (assessment task plan).verdict

-- the cost that goes with this verdict, a name of the same kind
unfoldable pub counted_cost : CostedTask → Plan → Cost
counted_cost task plan = (assessment task plan).cost

-- a finding is right for a task if its verdict and its cost are those of its job's plan
abbrev pub IsRight : CostedTask → Finding → Type 0
IsRight task finding = (finding.verdict ≡ verdict_of task finding.job.plan) × (finding.cost ≡ counted_cost task finding.job.plan)

-- the right finding of a job
abbrev pub right_finding : CostedTask → AcceptedPlan → Finding
right_finding task job = record { job = job; verdict = verdict_of task job.plan; cost = counted_cost task job.plan }
