-- Steps as planners write them when they write nothing more than needed: the names of a step, with a space between each two.

use Rattle.std.specs.Prelude.{◌≡◌, ℕ, true, List, map}
use Rattle.std.specs.List.{list_all}
use Rattle.pddl_words.specs.SpacedWords.{words_of}
use Rattle.pddl_words.specs.Words.{is_name, folded}
use Rattle.strips_task.specs.declared.steps.StepText.{StepText}
use Rattle.strips_task.specs.Steps.{step_of}

-- a row of bytes spells a step if all of its words are names
abbrev pub IsSpelled : List ℕ → Type 0
IsSpelled row = list_all is_name (words_of row) ≡ true

-- the step that a row spells: case does not matter
abbrev pub step_spelled : List ℕ → StepText
step_spelled row = step_of (map folded (words_of row))
