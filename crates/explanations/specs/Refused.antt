-- Why a text is refused.

use Rattle.pddl_syntax.specs.declared.fault.FaultKind.{FaultKind}
use Rattle.explanations.specs.declared.answers.Refused.{Refused}
use Rattle.explanations.specs.declared.answers.Refused.TheVariants.{Domain, Problem}

-- the kind of the fault
abbrev pub kind_of : Refused → FaultKind
kind_of (Domain fault) = fault.kind
kind_of (Problem fault) = fault.kind
