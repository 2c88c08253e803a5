-- Values by name, in tables of names.

use Rattle.std.specs.Prelude.{ℕ, List, slice_get, Option, Some, None}
use Rattle.std.specs.Map.{values_of}
use Rattle.strips_task.specs.Names.{number_named}

-- the value of the entry with a number, if there is one
unfoldable pub value_at : {V : Type 0} → List (List ℕ × V) → Option ℕ → Option V
value_at table None = None
value_at table (Some number) = slice_get (values_of table) number

-- the value of the entry with a name
unfoldable pub value_named : {V : Type 0} → List (List ℕ × V) → List ℕ → Option V
value_named table name = value_at table (number_named table name)
