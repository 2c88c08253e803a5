-- The names of the faults of a steps file.

use Rattle.std.specs.Prelude.{ℕ, List, codes}
use Rattle.steps_text.specs.declared.fault.StepsFaultKind.{StepsFaultKind}
use Rattle.steps_text.specs.declared.fault.StepsFaultKind.TheVariants.{Expected, TooMany}

-- the name of a kind of fault, as messages print it
abbrev pub fault_word : StepsFaultKind → List ℕ
fault_word Expected = codes "Expected"
fault_word TooMany = codes "TooMany"
