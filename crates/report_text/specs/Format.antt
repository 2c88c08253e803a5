-- The report of a run: the text that stands for a task, the planners, their plans, the verdicts and the costs, as lines, as a table and as JSON (this
-- validator's choice).

use Rattle.std.specs.Prelude.{ℕ, ◌-◌, ◌==◌, List, [], ◌∷◌, ◌++◌, Option, None, Some, codes, decimal, map, length, if◌then◌else◌}
use Rattle.std.specs.List.{flat_map, enumerate_from}
use Rattle.formulas.specs.Tree.{Tree}
use Rattle.strips_task.specs.declared.plans.Plan.{Plan}
use Rattle.strips_task.specs.declared.steps.StepText.{StepText}
use Rattle.strips_task.specs.declared.tasks.TaskParts.{TaskParts}
use Rattle.strips_judge.specs.declared.verdict.Verdict.{Verdict}
use Rattle.strips_judge.specs.declared.verdict.Verdict.TheVariants.{Valid, Fails, Goal, Unreadable as Unread}
use Rattle.strips_judge.specs.declared.verdict.Why.{Why}
use Rattle.strips_judge.specs.declared.verdict.Why.TheVariants.{UnknownAction, WrongCount, UnknownObject, WrongType, Missing}
use Rattle.plan_text.specs.StepAt.{step_at}
use Rattle.plan_cost.specs.declared.costs.Cost.{Cost}
use Rattle.plan_cost.specs.declared.costs.Cost.TheVariants.{NotCounted, Undefined, Billionths}
use Rattle.strips_task.specs.declared.costs.Costs.{Costs}
use Rattle.strips_task.specs.declared.costs.CostedTask.{CostedTask}
use Rattle.report_text.specs.declared.format.Format.{Format}
use Rattle.report_text.specs.declared.format.Format.TheVariants.{Lines, Table, Json}
use Rattle.report_text.specs.CostText.{billionths_text}
use Rattle.report_text.specs.Report.{Judged, Planner, conditions_text, failure_text, header_line, least, least_cost, plan_line, step_text, summary_text, valid_costs, valid_steps}
use Rattle.report_text.specs.Conditions.{condition_text, json_condition}
use Rattle.report_text.specs.Pieces.{after_commas, json_string, name_at}

-- conditions with single spaces between them
abbrev pub spaced_conditions : TaskParts → List Tree → List ℕ
spaced_conditions task [] = []
spaced_conditions task (cond ∷ conds) = condition_text task cond ++ conditions_text task conds

-- a byte of a field: a tab, an LF, a CR and a backslash are written as `\t`, `\n`, `\r` and `\\`
unfoldable pub field_byte : ℕ → List ℕ
field_byte byte =
    (if byte == 9 then 92 ∷ 116 ∷ []
    else (if byte == 10 then 92 ∷ 110 ∷ []
    else (if byte == 13 then 92 ∷ 114 ∷ []
    else (if byte == 92 then 92 ∷ 92 ∷ [] else byte ∷ []))))

-- a field of a table
unfoldable pub field : List ℕ → List ℕ
field bytes = flat_map field_byte bytes

-- the field `cost`: empty if costs are not counted, and `-` if the cost is undefined
abbrev pub cost_field : Cost → List ℕ
cost_field NotCounted = []
cost_field Undefined = codes "-"
cost_field (Billionths billionths) = billionths_text billionths

-- the fields `reason` and `missing`; arguments count from 1
abbrev pub why_fields : TaskParts → StepText → Why → List ℕ
why_fields task step UnknownAction = codes "unknown action\t"
why_fields task step WrongCount = codes "wrong number of arguments\t"
why_fields task step (UnknownObject arg) = codes "unknown object " ++ name_at step.args (arg - 1) ++ codes "\t"
why_fields task step (WrongType arg) = name_at step.args (arg - 1) ++ codes " has the wrong type\t"
why_fields task step (Missing conds) = codes "missing\t" ++ spaced_conditions task conds

-- the fields `action`, `reason` and `missing`
abbrev pub failure_fields : TaskParts → Option StepText → Why → List ℕ
failure_fields task None why = []
failure_fields task (Some step) why = step_text step ++ codes "\t" ++ why_fields task step why

-- the fields `verdict`, `steps`, `cost`, `step`, `action`, `reason`, `missing` and `line`; what a verdict does not have is empty
abbrev pub verdict_fields : TaskParts → Plan → Cost → Verdict → List ℕ
verdict_fields task plan cost (Valid steps) = codes "valid\t" ++ decimal steps ++ codes "\t" ++ cost_field cost ++ codes "\t\t\t\t\t"
verdict_fields task plan cost (Fails number why) =
    codes "fails\t\t\t" ++ decimal number ++ codes "\t" ++ failure_fields task (step_at plan (number - 1)) why ++ codes "\t"
verdict_fields task plan cost (Goal conds) = codes "goal\t\t\t\t\t\t" ++ spaced_conditions task conds ++ codes "\t"
verdict_fields task plan cost (Unread line) = codes "unreadable\t\t\t\t\t\t\t" ++ decimal line

-- the same fields of a plan with its verdict and its cost
abbrev pub found_fields : TaskParts → Judged → List ℕ
found_fields task judged = verdict_fields task judged.plan judged.cost judged.verdict

-- the names of the columns
abbrev pub table_head : List ℕ
table_head = codes "domain\tproblem\tplanner\tplan\tverdict\tsteps\tcost\tstep\taction\treason\tmissing\tline\n"

-- the row of a planner's plan; plans count from 1
abbrev pub table_row : TaskParts → List ℕ → ℕ → Judged → List ℕ
table_row task name number judged =
    task.domain ++ codes "\t" ++ task.problem ++ codes "\t" ++ field name ++ codes "\t" ++ decimal number ++ codes "\t"
    ++ found_fields task judged ++ codes "\n"

-- conditions in JSON, with commas between them
abbrev pub json_conditions : TaskParts → List Tree → List ℕ
json_conditions task [] = []
json_conditions task (cond ∷ conds) = json_condition task cond ++ after_commas (map (json_condition task) conds)

-- a step as a list, `["act","a","b"]`
abbrev pub json_step : StepText → List ℕ
json_step step = codes "[" ++ json_string step.action ++ after_commas (map json_string step.args) ++ codes "]"

-- why a step fails; arguments count from 1
abbrev pub json_why : TaskParts → Why → List ℕ
json_why task UnknownAction = codes "\"reason\":\"unknown action\""
json_why task WrongCount = codes "\"reason\":\"wrong number of arguments\""
json_why task (UnknownObject arg) = codes "\"reason\":\"unknown object\",\"argument\":" ++ decimal arg
json_why task (WrongType arg) = codes "\"reason\":\"wrong type\",\"argument\":" ++ decimal arg
json_why task (Missing conds) = codes "\"reason\":\"missing\",\"missing\":[" ++ json_conditions task conds ++ codes "]"

-- the failing step and why it fails
abbrev pub json_failure : TaskParts → Option StepText → Why → List ℕ
json_failure task None why = []
json_failure task (Some step) why = codes ",\"action\":" ++ json_step step ++ codes "," ++ json_why task why

-- the member `cost`: it is left out if costs are not counted, and null if the cost is undefined
abbrev pub json_cost : Cost → List ℕ
json_cost NotCounted = []
json_cost Undefined = codes ",\"cost\":null"
json_cost (Billionths billionths) = codes ",\"cost\":" ++ billionths_text billionths

-- the members of a verdict
abbrev pub json_verdict : TaskParts → Plan → Verdict → List ℕ
json_verdict task plan (Valid steps) = codes "\"valid\",\"steps\":" ++ decimal steps
json_verdict task plan (Fails number why) =
    codes "\"fails\",\"step\":" ++ decimal number ++ json_failure task (step_at plan (number - 1)) why
json_verdict task plan (Goal conds) = codes "\"goal\",\"missing\":[" ++ json_conditions task conds ++ codes "]"
json_verdict task plan (Unread line) = codes "\"unreadable\",\"line\":" ++ decimal line

-- the members of a plan's verdict and its cost
abbrev pub json_found : TaskParts → Judged → List ℕ
json_found task judged = json_verdict task judged.plan judged.verdict ++ json_cost judged.cost

-- the record of a run
abbrev pub json_run : TaskParts → List ℕ
json_run task =
    codes "{\"type\":\"run\",\"domain\":" ++ json_string task.domain ++ codes ",\"problem\":" ++ json_string task.problem ++ codes "}\n"

-- the record of a planner's plan; plans count from 1
abbrev pub json_plan : TaskParts → List ℕ → ℕ → Judged → List ℕ
json_plan task name number judged =
    codes "{\"type\":\"plan\",\"planner\":" ++ json_string name ++ codes ",\"plan\":" ++ decimal number ++ codes ",\"verdict\":"
    ++ json_found task judged ++ codes "}\n"

-- a number of steps, or null if there is none
abbrev pub json_best : Option ℕ → List ℕ
json_best None = codes "null"
json_best (Some steps) = decimal steps

-- the record of a planner
abbrev pub json_planner : List ℕ → ℕ → ℕ → Option ℕ → Cost → List ℕ
json_planner name plans valid best cost =
    codes "{\"type\":\"planner\",\"planner\":" ++ json_string name ++ codes ",\"plans\":" ++ decimal plans ++ codes ",\"valid\":" ++ decimal valid
    ++ codes ",\"best\":" ++ json_best best ++ json_cost cost ++ codes "}\n"

-- a failing step and why it fails, in a format
abbrev pub failure_in : Format → TaskParts → Option StepText → Why → List ℕ
failure_in Lines task step why = failure_text task step why
failure_in Table task step why = failure_fields task step why
failure_in Json task step why = json_failure task step why

-- what begins a report in a format: a line with the names of the domain and the problem, the names of the columns, or the record of the run
abbrev pub head_in : Format → TaskParts → List ℕ
head_in Lines task = header_line task
head_in Table task = table_head
head_in Json task = json_run task

-- a planner's plan in a format
abbrev pub plan_in : Format → TaskParts → List ℕ → ℕ → Judged → List ℕ
plan_in Lines task name number judged = plan_line task name number judged
plan_in Table task name number judged = table_row task name number judged
plan_in Json task name number judged = json_plan task name number judged

-- the sum of a planner's plans in a format; a table has none
abbrev pub summary_in : Format → List ℕ → ℕ → ℕ → Option ℕ → Cost → List ℕ
summary_in Lines name plans valid best cost = summary_text name plans valid best cost
summary_in Table name plans valid best cost = []
summary_in Json name plans valid best cost = json_planner name plans valid best cost

-- the sum of a planner with these plans
abbrev pub summary_of : Format → Option Costs → List ℕ → List Judged → List ℕ
summary_of format costs name plans =
    summary_in format name (length plans) (length (valid_steps plans)) (least (valid_steps plans)) (least_cost costs (least (valid_costs plans)))

-- the texts of plans, the first of which has this number
abbrev pub plan_texts : Format → TaskParts → List ℕ → ℕ → List Judged → List ℕ
plan_texts format task name number plans = flat_map (λ e. plan_in format task name e.0 e.1) (enumerate_from number plans)

-- all that a report says about a planner: its plans and their sum
abbrev pub planner_text : Format → CostedTask → Planner → List ℕ
planner_text format task planner =
    plan_texts format task.task planner.name 1 planner.plans ++ summary_of format task.costs planner.name planner.plans

-- the report in a format
abbrev pub report : Format → CostedTask → List Planner → List ℕ
report format task planners = head_in format task.task ++ flat_map (planner_text format task) planners
