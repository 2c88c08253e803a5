-- One step of a plan text.

use Rattle.std.specs.Prelude.{◌≡◌, ℕ, ◌<◌, length, map, slice_get, IfSome, Option, Some, None}
use Rattle.std.specs.Option.{option_copied}
use Rattle.pddl_words.specs.Words.{folded}
use Rattle.strips_task.specs.declared.plans.Plan.{Plan}
use Rattle.strips_task.specs.declared.plans.Plan.TheVariants.{Steps, Unreadable}
use Rattle.strips_task.specs.declared.steps.StepText.{StepText}
use Rattle.strips_task.specs.Spelled.{IsSpelled, step_spelled}
use Rattle.strips_task.specs.Steps.{step_of}
use Rattle.plan_text.specs.declared.step_at.FoundStep.{FoundStep}

-- the step with this index in a plan, counted from 0, if there is one; an unreadable plan has no step
abbrev pub step_at : Plan → ℕ → Option StepText
step_at (Steps steps) index = slice_get steps index
step_at (Unreadable line) index = None

-- where the step of a plan is written, if there is one: these are its words, and if there is a key, it spells the step
abbrev pub IsWhere : Option FoundStep → Option StepText → Type 0
IsWhere None None = Unit {0}
IsWhere None (Some step) = ⊥
IsWhere (Some found) None = ⊥
IsWhere (Some found) (Some step) =
    (0 < length found.words) × (step_of (map folded found.words) ≡ step) × IfSome (option_copied found.key) (λ row. IsSpelled row × (step_spelled row ≡ step))
