-- Steps of a plan, as folded text.

use Rattle.std.specs.Prelude.{ℕ, Bool, List, [], ◌∷◌, slice_range}
use Rattle.std.specs.Cmp.Lexicographic.{pointwise}
use Rattle.std.specs.Ordering.{on, eq_of_both}
use Rattle.std.specs.Str.{bytes_eq}
use Rattle.strips_task.specs.declared.steps.StepText.{StepText}
use Rattle.strips_task.specs.declared.steps.StepRange.{StepRange}

-- the step that words spell: the first names the action, the others are its arguments
unfoldable pub step_of : List (List ℕ) → StepText
step_of [] = record { action = []; args = [] }
step_of (word ∷ words) = record { action = word; args = words }

-- the same action and the same arguments
abbrev pub step_eq : StepText → StepText → Bool
step_eq = eq_of_both (on (λ s. s.action) bytes_eq) (on (λ s. s.args) (pointwise bytes_eq))

-- the step whose words are those of a range
abbrev pub step_at : List (List ℕ) → StepRange → StepText
step_at words range = step_of (slice_range words range.first range.end)
