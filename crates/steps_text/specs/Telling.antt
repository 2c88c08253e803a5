-- What a reader of steps reports about a text: its value, its fault, or that memory ran out, which says nothing about the text.

use Rattle.std.specs.Prelude.{◌≡◌, ⊤, List, map, Option, Some, None, Result, Ok, Err}
use Rattle.intake_core.specs.Asked.{asked}
use Rattle.intake_core.specs.declared.replaying.Step.{Step}
use Rattle.steps_text.specs.declared.fault.StepsFault.{StepsFault}
use Rattle.steps_text.specs.declared.read.StepsRefusal.{StepsRefusal}
use Rattle.steps_text.specs.declared.read.StepsRefusal.TheVariants.{Fault, OutOfMemory}
use Rattle.steps_text.specs.declared.read.StepsText.{StepsText}
use Rattle.steps_text.specs.StepsTexts.{StepsValue, Line, steps_fault, steps_of}

-- the value of a steps file that was read
abbrev pub value_of : StepsText → StepsValue
value_of read = record { planners = read.planners; slots = read.slots; steps = map asked read.steps }

-- what was read says the same as the definition, unless memory ran out
abbrev pub tells : Result StepsText StepsRefusal → Result StepsValue StepsFault → Type 0
tells (Ok read) value = value ≡ Ok (value_of read)
tells (Err (Fault found)) value = value ≡ Err found
tells (Err OutOfMemory) value = ⊤

-- the fault is that of the definition, unless memory ran out
abbrev pub tells_fault : StepsRefusal → Option StepsFault → Type 0
tells_fault (Fault found) value = value ≡ Some found
tells_fault OutOfMemory value = ⊤

-- the same for lines that all have to be steps: they have no fault and these are their steps, or this is their fault
abbrev pub tells_steps : Result (List Step) StepsRefusal → List Line → Type 0
tells_steps (Ok steps) lines = (steps_fault 0 lines ≡ None) × (map asked steps ≡ steps_of lines)
tells_steps (Err refusal) lines = tells_fault refusal (steps_fault 0 lines)
