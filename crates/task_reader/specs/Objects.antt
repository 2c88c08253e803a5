-- The objects that a variable may stand for.

use Rattle.std.specs.Prelude.{ℕ, Bool, List, [], ◌∷◌, filter, length, slice_index}
use Rattle.std.specs.List.{range_with_len}
use Rattle.std.specs.Map.{values_of}
use Rattle.strips_task.specs.declared.tasks.TaskParts.{TaskParts}
use Rattle.strips_task.specs.Types.{fits}

-- an object fits if its type is below one of these types (this validator's choice)
abbrev pub object_fits : TaskParts → List ℕ → ℕ → Bool
object_fits parts types object = fits parts.parents (slice_index (values_of parts.objects) object ∷ []) types

-- the objects that a variable of these types may stand for, in the order of their numbers, each once: those whose type is one of these or below one
abbrev pub objects_of : TaskParts → List ℕ → List ℕ
objects_of parts types = filter (λ object. object_fits parts types object) (range_with_len 0 (length parts.objects))

-- how many objects a variable of these types may stand for
unfoldable pub object_count : TaskParts → List ℕ → ℕ
object_count parts types = length (objects_of parts types)
