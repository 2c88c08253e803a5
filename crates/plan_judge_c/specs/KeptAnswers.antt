-- What a caller in C is answered who keeps a task.

use Rattle.std.specs.Prelude.{◌≡◌, ℕ, List, [], Option, None, Some}
use Rattle.std.specs.Option.{option_and_then}
use Rattle.pddl_syntax.specs.declared.dialect.Dialect.{Dialect}
use Rattle.strips_task.specs.declared.costs.CostedTask.{CostedTask}
use Rattle.judge_engine.specs.Kept.{answer_of, task_within}
use Rattle.judge_engine.specs.Refusal.{IsOfTexts, TextsCallForIn}
use Rattle.judge_engine.specs.declared.fault.JudgeFault.{JudgeFault}
use Rattle.plan_judge_c.specs.Inputs.{bundles_of, format_numbered}
use Rattle.c_values.specs.Dialects.{dialect_numbered}
use Rattle.plan_judge_c.specs.declared.inputs.NamedText.{NamedText}
use Rattle.plan_judge_c.specs.declared.inputs.Texts.{Texts}

-- the task of the domain and the problem of texts, if their dialect is known and neither is over the limit of a file
unfoldable pub task_for : Texts → Option CostedTask
task_for texts = option_and_then (λ dialect. task_within dialect texts.domain.bytes.now texts.problem.bytes.now) (dialect_numbered texts.dialect)

-- the fault is the one that the domain and the problem of texts call for, whatever their plans
abbrev pub IsTaskCalledFor : Texts → JudgeFault → Type 0
IsTaskCalledFor texts fault =
    (dialect : Dialect) × (dialect_numbered texts.dialect ≡ Some dialect)
    × IsOfTexts fault × TextsCallForIn dialect texts.domain.bytes.now texts.problem.bytes.now [] fault

-- the report on files of plans for a task that is kept, in the format with a number, if they have one
unfoldable pub kept_report : Option CostedTask → List NamedText → ℕ → Option (List ℕ)
kept_report kept plans number =
    option_and_then (λ task. option_and_then (λ format. answer_of format task (bundles_of plans)) (format_numbered number)) kept

-- the texts have these plans, and the task of their domain and problem is kept
abbrev pub AreTextsOf : Option CostedTask → List NamedText → Texts → Type 0
AreTextsOf kept plans texts = (task : CostedTask) × (kept ≡ Some task) × (task_for texts ≡ Some task) × (texts.plans.now ≡ plans)
