-- What a line of a steps file asks (this validator's choice of a format).

use Rattle.std.specs.Prelude.{ℕ, Bool, true, ◌==◌, List, [], ◌∷◌, Option, Some, None, codes, if◌then◌else◌}
use Rattle.std.specs.Option.{option_and_then}
use Rattle.std.specs.Str.{bytes_eq}
use Rattle.intake_core.specs.Asked.{Asked, to_submit, to_close, to_take, to_hand_back, to_finish, to_emit}
use Rattle.pddl_words.specs.DecimalReading.{digits_of}
use Rattle.plan_text.specs.PlanReading.{plan_of}
use Rattle.steps_text.specs.Words.{without_crs, first_word, behind_word, is_bare}

-- what a line that is not skipped says: how many planners and slots there are, a step, or nothing that belongs to this format
pub data Meaning : Type 0 where
  desk : ℕ → ℕ → Meaning
  step : Asked → Meaning
  strange : Meaning

-- the number that begins a line, and what follows it
abbrev pub first_number : List ℕ → Option (ℕ × List ℕ)
first_number line = option_and_then (λ number. Some (number, behind_word line)) (digits_of (first_word line))

-- the number in a line that has nothing else
abbrev pub only_number : List ℕ → Option ℕ
only_number line = option_and_then (λ found. if is_bare found.1 then Some found.0 else None) (first_number line)

-- the two numbers in a line that has nothing else
abbrev pub two_numbers : List ℕ → Option (ℕ × ℕ)
two_numbers line = option_and_then (λ found. option_and_then (λ second. Some (found.0, second)) (only_number found.1)) (first_number line)

-- the meaning, or `strange` if there is none
abbrev pub or_strange : Option Meaning → Meaning
or_strange (Some meaning) = meaning
or_strange None = strange

-- `desk P N`: an intake for P planners with N slots
unfoldable pub desk_in : List ℕ → Meaning
desk_in rest = or_strange (option_and_then (λ numbers. Some (desk numbers.0 numbers.1)) (two_numbers rest))

-- `submit P TEXT`: the plan of the text, for planner P
unfoldable pub submit_in : List ℕ → Meaning
submit_in rest = or_strange (option_and_then (λ found. Some (step (to_submit found.0 (plan_of found.1)))) (first_number rest))

-- `close P`: close planner P
unfoldable pub close_in : List ℕ → Meaning
close_in rest = or_strange (option_and_then (λ planner. Some (step (to_close planner))) (only_number rest))

-- `take`: give out the least job that waits
unfoldable pub take_in : List ℕ → Meaning
take_in rest = (if is_bare rest then step to_take else strange)

-- `back J`: hand back job J
unfoldable pub back_in : List ℕ → Meaning
back_in rest = or_strange (option_and_then (λ job. Some (step (to_hand_back job))) (only_number rest))

-- `finish J K`: hand in the finding of job K for job J
unfoldable pub finish_in : List ℕ → Meaning
finish_in rest = or_strange (option_and_then (λ numbers. Some (step (to_finish numbers.0 numbers.1))) (two_numbers rest))

-- `emit P`: emit the next finding of planner P
unfoldable pub emit_in : List ℕ → Meaning
emit_in rest = or_strange (option_and_then (λ planner. Some (step (to_emit planner))) (only_number rest))

-- a line without a word is skipped, and so is one whose first word begins with a semicolon (59)
abbrev pub is_skipped : List ℕ → Bool
is_skipped [] = true
is_skipped (b ∷ word) = b == 59

-- what a line with this first word and this rest says; the word must be in lower case
unfoldable pub meaning_of : List ℕ → List ℕ → Meaning
meaning_of word rest =
    if bytes_eq word (codes "desk") then desk_in rest
    else (if bytes_eq word (codes "submit") then submit_in rest
    else (if bytes_eq word (codes "close") then close_in rest
    else (if bytes_eq word (codes "take") then take_in rest
    else (if bytes_eq word (codes "back") then back_in rest
    else (if bytes_eq word (codes "finish") then finish_in rest
    else (if bytes_eq word (codes "emit") then emit_in rest
    else strange))))))

-- the meaning of a line with this first word, unless the line is skipped
abbrev pub meaning_by : List ℕ → List ℕ → Option Meaning
meaning_by word rest = (if is_skipped word then None else Some (meaning_of word rest))

-- what a line says, if it is not skipped
unfoldable pub line_meaning : List ℕ → Option Meaning
line_meaning line = meaning_by (first_word (without_crs line)) (behind_word (without_crs line))
