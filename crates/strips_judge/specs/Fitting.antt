-- Which objects a parameter or a variable may stand for.

use Rattle.std.specs.Prelude.{ℕ, Bool, List, [], ◌∷◌, slice_index}
use Rattle.std.specs.Map.{values_of}
use Rattle.strips_task.specs.declared.tasks.TaskParts.{TaskParts}
use Rattle.strips_task.specs.Types.{fits}

-- an object fits if its type is below one of these types (this validator's choice)
abbrev pub object_fits : TaskParts → List ℕ → ℕ → Bool
object_fits parts types object = fits parts.parents (slice_index (values_of parts.objects) object ∷ []) types
