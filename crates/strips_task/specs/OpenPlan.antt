-- A plan while it is read.

use Rattle.std.specs.Prelude.{◌≡◌, ℕ, List, ◌++◌, ◌<◌, ◌≤◌}
use Rattle.strips_task.specs.declared.steps.StepText.{StepText}
use Rattle.strips_task.specs.declared.steps.StepRange.{StepRange}

-- the complete steps, and the words of the one that is open
pub record OpenPlan : Type 0 where
  pub steps : List StepText
  pub words : List (List ℕ)

-- the new list is the old one followed by some words
pub record IsExtension (old new : List (List ℕ)) : Type 0 where
  pub more : List (List ℕ)
  pub extends : new ≡ old ++ more

-- the range is not empty, and its words are there
abbrev pub IsStepRange : ℕ → StepRange → Type 0
IsStepRange count range = (range.first < range.end) × (range.end ≤ count)
