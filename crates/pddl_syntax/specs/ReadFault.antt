-- Faults with their spans.

use Rattle.std.specs.Prelude.{ℕ}
use Rattle.pddl_syntax.specs.declared.fault.FaultKind.{FaultKind}
use Rattle.pddl_syntax.specs.declared.fault.FaultKind.TheVariants.{OutOfMemory}
use Rattle.pddl_syntax.specs.declared.fault.ReadFault.{ReadFault}

-- the fault of this kind at the bytes from `start` up to `end`
abbrev pub fault : FaultKind → ℕ → ℕ → ReadFault
fault kind start end = record { kind = kind; span = record { start = start; end = end } }

-- running out of memory, which has no span in the text
abbrev pub out_of_memory : ReadFault
out_of_memory = fault OutOfMemory 0 0
