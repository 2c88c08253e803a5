-- The objects of a task, constants among them.

use Rattle.std.specs.Prelude.{ℕ, nat_eq, nat_lt, List, [], ◌∷◌, ◌++◌, length, Option, Some, None}
use Rattle.std.specs.List.{position_from}
use Rattle.std.specs.Str.{bytes_eq}
use Rattle.pddl_words.specs.Words.{folded}
use Rattle.strips_task.specs.WellFormed.{most_objects}
use Rattle.pddl_syntax.specs.Optional.{guard, through}
use Rattle.pddl_syntax.specs.Syntax.{NameGroup}
use Rattle.pddl_reader.specs.Tables.{value_named}

-- for each object its name and the number of its type
abbrev pub Objects : Type 0
Objects = List (List ℕ × ℕ)

-- the number of the type that a word names
unfoldable pub type_number : List (List ℕ) → List ℕ → Option ℕ
type_number types word = position_from (bytes_eq (folded word)) 0 types

-- a new object is added, up to the limit; one that is declared already may only have the same type again
unfoldable pub of_type : Option ℕ → Objects → List ℕ → ℕ → Option Objects
of_type None objects name type = guard (nat_lt (length objects) most_objects) (Some (objects ++ (name, type) ∷ []))
of_type (Some known) objects name type = guard (nat_eq known type) (Some objects)

-- an object is declared with its type
unfoldable pub object_declared : ℕ → Objects → List ℕ → Option Objects
object_declared type objects word = of_type (value_named objects (folded word)) objects (folded word) type

-- the objects with those of a group, if its type is declared
unfoldable pub objects_typed : Option ℕ → Objects → List (List ℕ) → Option Objects
objects_typed None objects words = None
objects_typed (Some type) objects words = through (object_declared type) objects words

-- the objects so far and those of a group, if its type is known
unfoldable pub objects_grouped : List (List ℕ) → Objects → NameGroup → Option Objects
objects_grouped types objects group = objects_typed (type_number types group.type) objects group.names

-- the objects with those that groups declare
unfoldable pub objects_from : List (List ℕ) → Objects → List NameGroup → Option Objects
objects_from types objects groups = through (objects_grouped types) objects groups
