-- Tables of names: entries are numbered in the order in which they were added, from 0.

use Rattle.std.specs.Prelude.{ℕ, Bool, true, not, ◌&&◌, List, [], ◌∷◌, Option}
use Rattle.std.specs.List.{list_any, position_from}
use Rattle.std.specs.Map.{keys_of}
use Rattle.std.specs.Str.{bytes_eq}
use Rattle.indexmap.specs.IndexMap.{insert_entry}

-- the number of the entry with this name, if there is one; the bytes are compared as they are
unfoldable pub number_named : {V : Type 0} → List (List ℕ × V) → List ℕ → Option ℕ
number_named entries word = position_from (bytes_eq word) 0 (keys_of entries)

-- the entries with a value for a name: an entry that has the name keeps its place, and a new one goes last
abbrev pub with_entry : {V : Type 0} → List (List ℕ × V) → List ℕ → V → List (List ℕ × V)
with_entry entries name value = insert_entry bytes_eq entries name value

-- whether no name occurs twice
unfoldable pub are_distinct : List (List ℕ) → Bool
are_distinct [] = true
are_distinct (name ∷ names) = not (list_any (bytes_eq name) names) && are_distinct names
