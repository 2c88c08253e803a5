-- The answer to plans whose task is kept.

use Rattle.std.specs.Prelude.{◌≡◌, ℕ, ◌<◌, ◌≤◌, List, [], length, map, Option, Some, None, is_none, if◌then◌else◌}
use Rattle.pddl_syntax.specs.declared.dialect.Dialect.{Dialect}
use Rattle.strips_task.specs.declared.costs.CostedTask.{CostedTask}
use Rattle.task_reader.specs.Texts.{task_in}
use Rattle.report_text.specs.declared.format.Format.{Format}
use Rattle.report_text.specs.Format.{report}
use Rattle.judge_engine.specs.declared.fault.JudgeFault.{JudgeFault}
use Rattle.judge_engine.specs.declared.fault.JudgeFault.TheVariants.{TooLarge, TooManyPlanners, Domain, Problem, TooManyPlans, Steps, OutOfMemory, NoThread, Held}
use Rattle.judge_engine.specs.Answer.{is_within_limits, planner_of, too_large, plan_count, most_planners, most_plans}
use Rattle.judge_engine.specs.Bundle.{BundleValue}

-- the task of a domain and a problem in a dialect, if neither text is over the limit of a file
unfoldable pub task_within : Dialect → List ℕ → List ℕ → Option CostedTask
task_within dialect domain problem = if is_none (too_large domain problem []) then task_in dialect domain problem else None

-- the report on planners' files for a task, if these are within the limits of a run
unfoldable pub answer_of : Format → CostedTask → List BundleValue → Option (List ℕ)
answer_of format task bundles = if is_within_limits [] [] bundles then Some (report format task (map (planner_of task) bundles)) else None

-- the refusal that planners' files call for, whatever the task, the first of: a file that is too large, too many planners, too many plans
abbrev pub PlansCallFor : List BundleValue → JudgeFault → Type 0
PlansCallFor bundles (TooLarge large) = too_large [] [] bundles ≡ Some large
PlansCallFor bundles TooManyPlanners = (too_large [] [] bundles ≡ None) × (most_planners < length bundles)
PlansCallFor bundles TooManyPlans = (too_large [] [] bundles ≡ None) × (length bundles ≤ most_planners) × (most_plans < plan_count bundles)
PlansCallFor bundles (Domain fault) = ⊥
PlansCallFor bundles (Problem fault) = ⊥
PlansCallFor bundles (Steps fault) = ⊥
PlansCallFor bundles OutOfMemory = ⊥
PlansCallFor bundles NoThread = ⊥
PlansCallFor bundles (Held job) = ⊥
