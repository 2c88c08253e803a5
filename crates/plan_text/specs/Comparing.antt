-- What is known of plans while their texts are compared.

use Rattle.std.specs.Prelude.{◌≡◌, ℕ, Bool, false, List, ◌++◌, length, slice_get, Option, Some, None}
use Rattle.strips_task.specs.declared.plans.Plan.{Plan}
use Rattle.strips_task.specs.declared.plans.Plan.TheVariants.{Steps, Unreadable}
use Rattle.strips_task.specs.declared.steps.StepText.{StepText}
use Rattle.strips_task.specs.Steps.{step_eq}
use Rattle.plan_text.specs.PlanReading.{plan_of}
use Rattle.plan_text.specs.Walks.{Walk, HasPassed}

-- a plan begins with these steps, or its fault is in this line
abbrev pub EndsAs : Option ℕ → Plan → List StepText → Type 0
EndsAs None plan steps = (more : List StepText) × (plan ≡ Steps (steps ++ more))
EndsAs (Some line) plan steps = plan ≡ Unreadable line

-- two walks have passed steps behind which the plans of their texts, if both have steps, don't have as many
pub record PartAt (first second : Walk) : Type 0 where
  pub steps : List StepText
  pub others : List StepText
  pub by_first : HasPassed first steps
  pub by_second : HasPassed second others
  pub apart :
      (more rest : List StepText) → plan_of first.text ≡ Steps (steps ++ more) → plan_of second.text ≡ Steps (others ++ rest)
      → length (steps ++ more) ≡ length (others ++ rest) → ⊥

-- whether this step is the one, if there is one
abbrev pub is_step : Option StepText → StepText → Bool
is_step None step = false
is_step (Some shown) step = step_eq shown step

-- whether this step is at an index
abbrev pub has_at : List StepText → ℕ → StepText → Bool
has_at steps index step = is_step (slice_get steps index) step
