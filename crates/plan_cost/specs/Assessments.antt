-- A verdict and a cost.

use Rattle.std.specs.Prelude.{Option, Some, None}
use Rattle.strips_task.specs.declared.plans.Plan.{Plan}
use Rattle.strips_task.specs.declared.tasks.TaskParts.{TaskParts}
use Rattle.strips_judge.specs.declared.verdict.Verdict.{Verdict}
use Rattle.strips_judge.specs.declared.verdict.Verdict.TheVariants.{Valid, Fails, Goal, Unreadable}
use Rattle.strips_judge.specs.Verdict.{verdict}
use Rattle.plan_cost.specs.declared.assessments.Assessment.{Assessment}
use Rattle.plan_cost.specs.declared.costs.Cost.{Cost}
use Rattle.plan_cost.specs.declared.costs.Cost.TheVariants.{NotCounted}
use Rattle.strips_task.specs.declared.costs.CostedTask.{CostedTask}
use Rattle.strips_task.specs.declared.costs.Costs.{Costs}
use Rattle.plan_cost.specs.Costs.{cost_of}

-- the cost that goes with a verdict: that of the plan, if the plan is valid and costs are counted
abbrev pub cost_beside : TaskParts → Option Costs → Plan → Verdict → Cost
cost_beside parts (Some costs) plan (Valid steps) = cost_of parts costs plan
cost_beside parts (Some costs) plan (Fails step why) = NotCounted
cost_beside parts (Some costs) plan (Goal missing) = NotCounted
cost_beside parts (Some costs) plan (Unreadable line) = NotCounted
cost_beside parts None plan answer = NotCounted

-- the verdict of a plan, and its cost
abbrev pub assessment : CostedTask → Plan → Assessment
assessment task plan = record { verdict = verdict task.task plan; cost = cost_beside task.task task.costs plan (verdict task.task plan) }
