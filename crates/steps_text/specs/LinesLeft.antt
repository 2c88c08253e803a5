-- What is left of the lines of a text.

use Rattle.std.specs.Prelude.{ℕ, List, [], Option, Some, None}
use Rattle.steps_text.specs.declared.lines.KeptLine.{KeptLine}
use Rattle.steps_text.specs.Meanings.{shown}
use Rattle.steps_text.specs.StepsTexts.{Line, lines}

-- how many lines were taken, and the others
pub record LinesLeft : Type 0 where
  pub taken : ℕ
  pub left : List (List ℕ)

-- the lines of what is left of a text; none if nothing is left, not even an empty line
abbrev pub left_in : Option (List ℕ) → List (List ℕ)
left_in None = []
left_in (Some rest) = lines rest

-- a line that a reader kept, as the definitions name it
abbrev pub shown_line : KeptLine → Line
shown_line line = record { number = line.number; meaning = shown line.meaning }
