-- What a steps file holds: how large the intake is, and the steps; or else its first faulty line (this validator's choice of a format).

use Rattle.std.specs.Prelude.{ℕ, ◌+◌, ◌==◌, ◌&&◌, nat_le, nat_lt, List, [], ◌∷◌, length, Option, Some, None, Result, Ok, Err, if◌then◌else◌}
use Rattle.std.specs.List.{filter_map, slice_split}
use Rattle.intake_core.specs.Asked.{Asked}
use Rattle.steps_text.specs.declared.fault.StepsFault.{StepsFault}
use Rattle.steps_text.specs.declared.fault.StepsFaultKind.{StepsFaultKind}
use Rattle.steps_text.specs.declared.fault.StepsFaultKind.TheVariants.{Expected, TooMany}
use Rattle.steps_text.specs.Lines.{Meaning, desk, step, line_meaning}

-- the lines of a text, without the LF (10) that ends each; what follows the last LF is a line, too
abbrev pub lines : List ℕ → List (List ℕ)
lines text = slice_split (λ b. b == 10) text

-- how many planners an intake may have
abbrev pub most_planners : ℕ
most_planners = 64

-- how many slots an intake may have
abbrev pub most_slots : ℕ
most_slots = 65536

-- how many steps a steps file may have
abbrev pub most_steps : ℕ
most_steps = 100000

-- how large an intake is, and the steps that are to be run on it
pub record StepsValue : Type 0 where
  pub planners : ℕ
  pub slots : ℕ
  pub steps : List Asked

-- a line that is not skipped, with its number
pub record Line : Type 0 where
  pub number : ℕ
  pub meaning : Meaning

-- the line, unless it was skipped, and the rest
abbrev pub kept : ℕ → Option Meaning → List Line → List Line
kept number None rest = rest
kept number (Some meaning) rest = record { number = number; meaning = meaning } ∷ rest

-- the lines that are not skipped, numbered from this number on
abbrev pub kept_lines : ℕ → List (List ℕ) → List Line
kept_lines number [] = []
kept_lines number (line ∷ lines) = kept number (line_meaning line) (kept_lines (number + 1) lines)

-- a fault of this kind in this line
abbrev pub fault : StepsFaultKind → ℕ → Option StepsFault
fault kind line = Some (record { kind = kind; line = line })

-- the fault of a line with this number and meaning after `before` steps, if it has one
abbrev pub fault_by : ℕ → ℕ → Meaning → Option StepsFault
fault_by before number (step asked) = (if nat_lt before most_steps then None else fault TooMany number)
fault_by before number _ = fault Expected number

-- the first fault, if there is one, or else the later
abbrev pub first_of : Option StepsFault → Option StepsFault → Option StepsFault
first_of (Some found) later = Some found
first_of None later = later

-- what is wrong with a line that has to be a step, after `before` others
abbrev pub step_fault : ℕ → Line → Option StepsFault
step_fault before line = fault_by before line.number line.meaning

-- the first fault of lines that have to be steps, after `before` others
abbrev pub steps_fault : ℕ → List Line → Option StepsFault
steps_fault before [] = None
steps_fault before (line ∷ lines) = first_of (step_fault before line) (steps_fault (before + 1) lines)

-- the step of a line, if it is one
abbrev pub asked_in : Meaning → Option Asked
asked_in (step asked) = Some asked
asked_in _ = None

-- the steps of these lines
abbrev pub steps_of : List Line → List Asked
steps_of lines = filter_map (λ line. asked_in line.meaning) lines

-- the steps of a text, or its fault
abbrev pub answer : ℕ → ℕ → List Asked → Option StepsFault → Result StepsValue StepsFault
answer planners slots steps None = Ok (record { planners = planners; slots = slots; steps = steps })
answer planners slots steps (Some found) = Err found

-- what these lines hold after one that asks for an intake of this many planners and slots
abbrev pub steps_behind : ℕ → ℕ → List Line → Result StepsValue StepsFault
steps_behind planners slots lines = answer planners slots (steps_of lines) (steps_fault 0 lines)

-- what lines hold if the first has this number and this meaning, and these are the others
abbrev pub steps_by : ℕ → Meaning → List Line → Result StepsValue StepsFault
steps_by number (desk planners slots) lines =
    (if nat_le planners most_planners && nat_le slots most_slots then steps_behind planners slots lines
    else Err (record { kind = TooMany; line = number }))
steps_by number _ lines = Err (record { kind = Expected; line = number })

-- what lines hold: the first has to say how large the intake is; if there is no line, the fault is at the end
abbrev pub steps_from : ℕ → List Line → Result StepsValue StepsFault
steps_from end [] = Err (record { kind = Expected; line = end })
steps_from end (line ∷ lines) = steps_by line.number line.meaning lines

-- what a text holds
unfoldable pub steps_text : List ℕ → Result StepsValue StepsFault
steps_text text = steps_from (length (lines text)) (kept_lines 1 (lines text))
