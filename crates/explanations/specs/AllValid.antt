-- When all plans of some files are valid.

use Rattle.std.specs.Prelude.{ℕ, Bool, true, false, List, Option, Some, None}
use Rattle.std.specs.List.{list_all}
use Rattle.strips_judge.specs.declared.verdict.Verdict.{Verdict}
use Rattle.strips_judge.specs.declared.verdict.Verdict.TheVariants.{Valid, Fails, Goal, Unreadable}
use Rattle.strips_task.specs.declared.costs.CostedTask.{CostedTask}
use Rattle.plan_cost.specs.Assessments.{assessment}
use Rattle.plan_text.specs.Bundle.{parts}
use Rattle.plan_text.specs.PlanReading.{plan_of}
use Rattle.explanations.specs.declared.source.SourceText.{SourceText}

-- whether a verdict is that the plan is valid
abbrev pub is_valid : Verdict → Bool
is_valid (Valid steps) = true
is_valid (Fails number why) = false
is_valid (Goal conds) = false
is_valid (Unreadable line) = false

-- whether the plan of a text is valid
abbrev pub is_valid_plan : CostedTask → List ℕ → Bool
is_valid_plan task text = is_valid (assessment task (plan_of text)).verdict

-- whether all plans of a file are valid
abbrev pub are_valid_in : CostedTask → List ℕ → Bool
are_valid_in task bytes = list_all (is_valid_plan task) (parts bytes)

-- whether all plans of all files are valid
abbrev pub are_all_valid : CostedTask → List SourceText → Bool
are_all_valid task files = list_all (λ file. are_valid_in task file.bytes.now) files

-- whether the texts stand for a task, and all plans of the files are valid
abbrev pub all_valid_for : Option CostedTask → List SourceText → Bool
all_valid_for None files = false
all_valid_for (Some task) files = are_all_valid task files
