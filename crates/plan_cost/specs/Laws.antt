-- What follows from the definition of costs.

use Rattle.std.specs.Prelude.{◌≡◌, ◌↔◌, ℕ, ◌+◌, List, ◌++◌, Some, None, Contains, map, sum}
use Rattle.std.specs.List.{flat_map}
use Rattle.strips_task.specs.declared.plans.Plan.{Plan}
use Rattle.strips_task.specs.declared.steps.StepText.{StepText}
use Rattle.strips_task.specs.declared.tasks.TaskParts.{TaskParts}
use Rattle.strips_judge.specs.Verdict.{verdict}
use Rattle.strips_task.specs.declared.costs.CostedTask.{CostedTask}
use Rattle.strips_task.specs.declared.costs.Costs.{Costs}
use Rattle.plan_cost.specs.Assessments.{assessment}
use Rattle.plan_cost.specs.Costs.{added, sum_of, step_amounts, steps_cost}
use Rattle.strips_task.specs.Values.{initial_cost}

-- the verdict of an assessment is that of the plan for the task without its costs
abbrev pub VerdictIgnoresCosts : CostedTask → Plan → Type 0
VerdictIgnoresCosts task plan = (assessment task plan).verdict ≡ verdict task.task plan

-- what a list of steps costs is what its first steps cost, plus the amounts that the others add
abbrev pub CostsAddUp : TaskParts → Costs → List StepText → List StepText → Type 0
CostsAddUp parts costs first others =
    steps_cost parts costs (first ++ others) ≡ added (steps_cost parts costs first) (sum_of (flat_map (step_amounts parts costs) others))

-- if all amounts of the steps are defined, the cost is the initial value plus their sum
abbrev pub IsSumOfAmounts : TaskParts → Costs → List StepText → Type 0
IsSumOfAmounts parts costs steps =
    (amounts : List ℕ) → flat_map (step_amounts parts costs) steps ≡ map Some amounts → steps_cost parts costs steps ≡ Some (initial_cost costs + sum amounts)

-- the cost is undefined if and only if one of the amounts is
abbrev pub IsUndefinedByOne : TaskParts → Costs → List StepText → Type 0
IsUndefinedByOne parts costs steps = (steps_cost parts costs steps ≡ None) ↔ Contains (flat_map (step_amounts parts costs) steps) None
