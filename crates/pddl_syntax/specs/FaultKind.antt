-- The names of the kinds of fault.

use Rattle.std.specs.Prelude.{ℕ, List, codes}
use Rattle.pddl_syntax.specs.declared.fault.FaultKind.{FaultKind}
use Rattle.pddl_syntax.specs.declared.fault.FaultKind.TheVariants.{BadText, Unbalanced, Expected, Unsupported, UnknownName, Repeated, TypeCycle, WrongCount, WrongType, TooDeep, TooMany, OutOfMemory}

-- the name of a kind, as reports print it (this validator's choice)
abbrev pub name_of : FaultKind → List ℕ
name_of BadText = codes "BadText"
name_of Unbalanced = codes "Unbalanced"
name_of Expected = codes "Expected"
name_of Unsupported = codes "Unsupported"
name_of UnknownName = codes "UnknownName"
name_of Repeated = codes "Repeated"
name_of TypeCycle = codes "TypeCycle"
name_of WrongCount = codes "WrongCount"
name_of WrongType = codes "WrongType"
name_of TooDeep = codes "TooDeep"
name_of TooMany = codes "TooMany"
name_of OutOfMemory = codes "OutOfMemory"
