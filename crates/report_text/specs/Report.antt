-- The lines of a report: the text that stands for plans, verdicts and costs (this validator's choice).

use Rattle.std.specs.Prelude.{ℕ, ◌-◌, List, [], ◌∷◌, ◌++◌, Option, None, Some, codes, decimal, map, unwrap_or, min}
use Rattle.std.specs.List.{filter_map}
use Rattle.std.specs.Option.{option_map}
use Rattle.formulas.specs.Tree.{Tree}
use Rattle.strips_task.specs.declared.plans.Plan.{Plan}
use Rattle.strips_task.specs.declared.steps.StepText.{StepText}
use Rattle.strips_task.specs.declared.tasks.TaskParts.{TaskParts}
use Rattle.strips_judge.specs.declared.verdict.Verdict.{Verdict}
use Rattle.strips_judge.specs.declared.verdict.Verdict.TheVariants.{Valid, Fails, Goal, Unreadable as Unread}
use Rattle.strips_judge.specs.declared.verdict.Why.{Why}
use Rattle.strips_judge.specs.declared.verdict.Why.TheVariants.{UnknownAction, WrongCount, UnknownObject, WrongType, Missing}
use Rattle.plan_text.specs.StepAt.{step_at}
use Rattle.plan_cost.specs.declared.costs.Cost.{Cost}
use Rattle.plan_cost.specs.declared.costs.Cost.TheVariants.{NotCounted, Undefined, Billionths}
use Rattle.strips_task.specs.declared.costs.Costs.{Costs}
use Rattle.plan_cost.specs.Costs.{cost_answer}
use Rattle.intake_rules.specs.declared.finding.Finding.{Finding}
use Rattle.report_text.specs.Conditions.{condition_text}
use Rattle.report_text.specs.CostText.{cost_text}
use Rattle.report_text.specs.Pieces.{name_at, spaced}

-- conditions, each after a space
abbrev pub conditions_text : TaskParts → List Tree → List ℕ
conditions_text task conds = spaced (map (condition_text task) conds)

-- a step, as `(act a b)`
abbrev pub step_text : StepText → List ℕ
step_text step = codes "(" ++ step.action ++ spaced step.args ++ codes ")"

-- what is wrong with a step; arguments count from 1
abbrev pub why_text : TaskParts → StepText → Why → List ℕ
why_text task step UnknownAction = codes "unknown action"
why_text task step WrongCount = codes "wrong number of arguments"
why_text task step (UnknownObject arg) = codes "unknown object " ++ name_at step.args (arg - 1)
why_text task step (WrongType arg) = name_at step.args (arg - 1) ++ codes " has the wrong type"
why_text task step (Missing conds) = codes "missing" ++ conditions_text task conds

-- what is wrong with a step, whatever the step is, if that names none of its arguments
abbrev pub plain_why_text : TaskParts → Why → List ℕ
plain_why_text task UnknownAction = codes "unknown action"
plain_why_text task WrongCount = codes "wrong number of arguments"
plain_why_text task (UnknownObject arg) = []
plain_why_text task (WrongType arg) = []
plain_why_text task (Missing conds) = codes "missing" ++ conditions_text task conds

-- a failing step and what is wrong with it
abbrev pub failure_text : TaskParts → Option StepText → Why → List ℕ
failure_text task None why = []
failure_text task (Some step) why = codes " " ++ step_text step ++ codes ": " ++ why_text task step why

-- a verdict of a plan; steps count from 1
abbrev pub verdict_text : TaskParts → Plan → Verdict → List ℕ
verdict_text task plan (Valid steps) = codes "valid " ++ decimal steps
verdict_text task plan (Fails number why) =
    codes "fails at " ++ decimal number ++ failure_text task (step_at plan (number - 1)) why
verdict_text task plan (Goal conds) = codes "goal missing" ++ conditions_text task conds
verdict_text task plan (Unread line) = codes "unreadable line " ++ decimal line

-- a plan with its verdict and its cost
pub record Judged : Type 0 where
  pub plan : Plan
  pub verdict : Verdict
  pub cost : Cost

-- a finding as a plan with its verdict and its cost
abbrev pub as_judged : Finding → Judged
as_judged finding = record { plan = finding.job.plan; verdict = finding.verdict; cost = finding.cost }

-- what is found about a plan: its verdict, and its cost if that is counted
abbrev pub judged_text : TaskParts → Judged → List ℕ
judged_text task judged = verdict_text task judged.plan judged.verdict ++ cost_text judged.cost

-- the line of a planner's plan; plans count from 1
abbrev pub plan_line : TaskParts → List ℕ → ℕ → Judged → List ℕ
plan_line task name number judged = name ++ codes " " ++ decimal number ++ codes " " ++ judged_text task judged ++ codes "\n"

-- the number of steps, if the verdict is that the plan is valid
abbrev pub steps_if_valid : Verdict → Option ℕ
steps_if_valid (Valid steps) = Some steps
steps_if_valid (Fails number why) = None
steps_if_valid (Goal conds) = None
steps_if_valid (Unread line) = None

-- the numbers of steps of the valid plans
abbrev pub valid_steps : List Judged → List ℕ
valid_steps plans = filter_map (λ judged. steps_if_valid judged.verdict) plans

-- a cost as a number of billionths, if it is defined
abbrev pub defined_cost : Cost → Option ℕ
defined_cost NotCounted = None
defined_cost Undefined = None
defined_cost (Billionths billionths) = Some billionths

-- the defined costs of plans; one that is not valid has none
abbrev pub valid_costs : List Judged → List ℕ
valid_costs plans = filter_map (λ judged. defined_cost judged.cost) plans

-- the least number of a list, if there is one
abbrev pub least : List ℕ → Option ℕ
least [] = None
least (n ∷ ns) = Some (unwrap_or (option_map (min n) (least ns)) n)

-- a number of steps, or `-` if there is none
abbrev pub best_text : Option ℕ → List ℕ
best_text None = codes "-"
best_text (Some steps) = decimal steps

-- the least defined cost of a valid plan: undefined if there is none, and not counted if the task counts no costs
abbrev pub least_cost : Option Costs → Option ℕ → Cost
least_cost None cost = NotCounted
least_cost (Some costs) cost = cost_answer cost

-- a planner's last line, of these numbers of plans and of valid plans, the least number of steps of a valid one, and the least cost of one
abbrev pub summary_text : List ℕ → ℕ → ℕ → Option ℕ → Cost → List ℕ
summary_text name plans valid best cost =
    name ++ codes " plans " ++ decimal plans ++ codes " valid " ++ decimal valid ++ codes " best " ++ best_text best ++ cost_text cost ++ codes "\n"

-- a planner's name with its plans, their verdicts and their costs
pub record Planner : Type 0 where
  pub name : List ℕ
  pub plans : List Judged

-- the first line
abbrev pub header_line : TaskParts → List ℕ
header_line task = codes "domain " ++ task.domain ++ codes " problem " ++ task.problem ++ codes "\n"
