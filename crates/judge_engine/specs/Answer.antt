-- The answer to the input bytes: what the report of a run has to be.

use Rattle.std.specs.Prelude.{ℕ, Bool, List, length, map, nat_lt, nat_le, ◌&&◌, Option, None, Some, is_none, if◌then◌else◌}
use Rattle.std.specs.List.{position_from, sum_by}
use Rattle.std.specs.Option.{option_map}
use Rattle.strips_task.specs.declared.costs.CostedTask.{CostedTask}
use Rattle.plan_cost.specs.Assessments.{assessment}
use Rattle.strips_task.specs.declared.plans.Plan.{Plan}
use Rattle.plan_text.specs.Bundle.{parts}
use Rattle.plan_text.specs.PlanReading.{plan_of}
use Rattle.pddl_syntax.specs.declared.dialect.Dialect.{Dialect}
use Rattle.pddl_syntax.specs.declared.dialect.Dialect.TheVariants.{Strips}
use Rattle.task_reader.specs.Texts.{task_in}
use Rattle.judge_engine.specs.declared.fault.Input.{Input}
use Rattle.judge_engine.specs.declared.fault.Input.TheVariants as input
use Rattle.judge_engine.specs.Bundle.{BundleValue}
use Rattle.report_text.specs.declared.format.Format.{Format}
use Rattle.report_text.specs.declared.format.Format.TheVariants.{Lines}
use Rattle.report_text.specs.Format.{report}
use Rattle.report_text.specs.Report.{Judged, Planner}

-- how many bytes a file may have
abbrev pub file_limit : ℕ
file_limit = 16777216

-- how many planners a run may have
abbrev pub most_planners : ℕ
most_planners = 64

-- how many plans a run may have
abbrev pub most_plans : ℕ
most_plans = 65536

-- a plan with its verdict and its cost
unfoldable pub judged_plan : CostedTask → Plan → Judged
judged_plan task plan = record { plan = plan; verdict = (assessment task plan).verdict; cost = (assessment task plan).cost }

-- the plan of a text with its verdict and its cost
unfoldable pub judged : CostedTask → List ℕ → Judged
judged task text = judged_plan task (plan_of text)

-- a planner with its plans, their verdicts and their costs
unfoldable pub planner_of : CostedTask → BundleValue → Planner
planner_of task bundle = record { name = bundle.name; plans = map (judged task) (parts bundle.bytes) }

-- whether a text is over the limit of a file
abbrev pub is_over_limit : List ℕ → Bool
is_over_limit text = nat_lt file_limit (length text)

-- the first input that is over the limit of a file: the domain, the problem, then the planners' files
unfoldable pub too_large : List ℕ → List ℕ → List BundleValue → Option Input
too_large domain problem bundles =
    (if is_over_limit domain then Some input.Domain
    else if is_over_limit problem then Some input.Problem
    else option_map input.Plans (position_from is_over_limit 0 (map (λ bundle. bundle.bytes) bundles)))

-- how many plans the planners' files hold
unfoldable pub plan_count : List BundleValue → ℕ
plan_count bundles = sum_by (λ bundle. length (parts bundle.bytes)) bundles

-- whether a run is within its limits: no text is too large, and there are not too many planners and plans
abbrev pub is_within_limits : List ℕ → List ℕ → List BundleValue → Bool
is_within_limits domain problem bundles =
    is_none (too_large domain problem bundles)
    && (nat_le (length bundles) most_planners && nat_le (plan_count bundles) most_plans)

-- the report of a run in a format, if the run is within its limits and the domain and the problem stand for a task in the dialect
unfoldable pub answer_as : Dialect → Format → List ℕ → List ℕ → List BundleValue → Option (List ℕ)
answer_as dialect format domain problem bundles =
    (if is_within_limits domain problem bundles
    then option_map (λ task. report format task (map (planner_of task) bundles)) (task_in dialect domain problem)
    else None)

-- the report of a run in lines
abbrev pub answer_in : Dialect → List ℕ → List ℕ → List BundleValue → Option (List ℕ)
answer_in dialect domain problem bundles = answer_as dialect Lines domain problem bundles

-- the report of a run in the default dialect
abbrev pub answer : List ℕ → List ℕ → List BundleValue → Option (List ℕ)
answer domain problem bundles = answer_in Strips domain problem bundles
