-- Types that the reader does not export. Each is named here by a value that has it.

use Rattle.std.specs.Prelude.{[], Option, Some, None}
use Rattle.pddl_reader.specs.Domain.{action_doing, no_actions}
use Rattle.pddl_reader.specs.Effects.{nothing_happens}
use Rattle.pddl_reader.specs.TypeOrder.{ordered}

-- the type of a value that may be missing
abbrev pub type_given : {A : Type 0} → Option A → Type 0
type_given {A} value = A

-- an action with its increases
abbrev pub CostedAction : Type 0
CostedAction = type_given (Some (action_doing [] [] nothing_happens))

-- the declared actions, and beside them the increases of each
abbrev pub ActionTables : Type 0
ActionTables = type_given (Some no_actions)

-- the names of the types, and for each the number of its parent
abbrev pub KnownTypes : Type 0
KnownTypes = type_given (ordered None)
