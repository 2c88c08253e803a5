-- The text that says why texts give no report (this validator's choice).

use Rattle.std.specs.Prelude.{ℕ, ◌^◌, List, ◌++◌, codes, decimal, length, min, nat_lt, if◌then◌else◌}
use Rattle.pddl_syntax.specs.FaultKind.{name_of}
use Rattle.pddl_syntax.specs.declared.fault.ReadFault.{ReadFault}
use Rattle.pddl_tokens.specs.Lines.{line_of}
use Rattle.steps_text.specs.Faults.{fault_word}
use Rattle.judge_engine.specs.declared.fault.JudgeFault.{JudgeFault}
use Rattle.judge_engine.specs.declared.fault.JudgeFault.TheVariants.{TooLarge, TooManyPlanners, Domain, Problem, TooManyPlans, Steps, OutOfMemory, NoThread, Held}

-- the line of an offset in a text; an offset past the end counts as the end, and a text of 2^31 bytes or more as one line
unfoldable pub line_at : List ℕ → ℕ → ℕ
line_at text offset = if nat_lt (length text) (2 ^ 31) then line_of text (min offset (length text)) else 1

-- the line of a fault in the text that has it
abbrev pub fault_line : List ℕ → List ℕ → JudgeFault → ℕ
fault_line domain problem (TooLarge large) = 1
fault_line domain problem TooManyPlanners = 1
fault_line domain problem (Domain fault) = line_at domain fault.span.start
fault_line domain problem (Problem fault) = line_at problem fault.span.start
fault_line domain problem TooManyPlans = 1
fault_line domain problem (Steps fault) = fault.line
fault_line domain problem OutOfMemory = 1
fault_line domain problem NoThread = 1
fault_line domain problem (Held job) = 1

-- where a text is refused, and the kind of fault: the line, the offsets of the first byte and of the end, and the name of the kind
abbrev pub place_text : ℕ → ReadFault → List ℕ
place_text line fault =
    codes " line " ++ decimal line ++ codes " bytes " ++ decimal fault.span.start ++ codes "-" ++ decimal fault.span.end ++ codes ": " ++ name_of fault.kind

-- a fault in this line; if an input is too large, it has this name
abbrev pub fault_text : List ℕ → ℕ → JudgeFault → List ℕ
fault_text name line (TooLarge large) = name ++ codes " is too large"
fault_text name line TooManyPlanners = codes "more than 64 planners"
fault_text name line (Domain fault) = codes "domain" ++ place_text line fault
fault_text name line (Problem fault) = codes "problem" ++ place_text line fault
fault_text name line TooManyPlans = codes "more than 65536 plans"
fault_text name line (Steps fault) = codes "steps line " ++ decimal line ++ codes ": " ++ fault_word fault.kind
fault_text name line OutOfMemory = codes "out of memory"
fault_text name line NoThread = codes "no thread"
fault_text name line (Held job) = codes "a job is held"
