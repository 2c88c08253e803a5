-- The types of a domain and their order (PDDL 2.1, Fox and Long 2003, section 2: types form a tree below `object`).

use Rattle.std.specs.Prelude.{◌≡◌, ◌<◌, ◌↔◌, IsTrue, ℕ, zero, suc, Bool, true, ◌&&◌, nat_eq, nat_lt, not, is_some, List, [], ◌∷◌, ◌++◌, map, length, slice_index, Option, Some, None, unwrap_or, if◌then◌else◌}
use Rattle.std.specs.List.{list_all}
use Rattle.std.specs.Str.{bytes_eq}
use Rattle.pddl_words.specs.Words.{folded}
use Rattle.strips_task.specs.Names.{number_named}
use Rattle.strips_task.specs.Types.{IsTypeTree, ancestor, is_below}
use Rattle.strips_task.specs.WellFormed.{most_types}
use Rattle.pddl_reader.specs.declared.resolution.types.KnownTypes.{KnownTypes}
use Rattle.pddl_reader.specs.declared.resolution.types.TypeTables.{TypeTables}
use Rattle.pddl_syntax.specs.declared.dialect.Dialect.{Dialect}
use Rattle.pddl_syntax.specs.declared.dialect.Dialect.TheVariants.{Strips, Ipc, Adl}
use Rattle.pddl_syntax.specs.Keywords.{object_word}
use Rattle.pddl_syntax.specs.Optional.{guard, through}
use Rattle.pddl_syntax.specs.Syntax.{NameGroup}
use Rattle.pddl_reader.specs.Tables.{value_named}

-- the names of the types, in the order of their numbers
abbrev pub TypeNames : Type 0
TypeNames = List (List ℕ × Unit {0})

-- for each declared type the name of its parent
abbrev pub TypeParents : Type 0
TypeParents = List (List ℕ × List ℕ)

-- a type is numbered where its name first appears; there are no more types than the limit
unfoldable pub numbered : TypeNames → List ℕ → Option TypeNames
numbered names name =
    (if is_some (number_named names name) then Some names
    else guard (nat_lt (length names) most_types) (Some (names ++ (name, tt) ∷ [])))

-- a type that is declared already may be declared again under the same parent only
unfoldable pub under : Option (List ℕ) → TypeParents → List ℕ → List ℕ → Option TypeParents
under None parents name parent = Some (parents ++ (name, parent) ∷ [])
under (Some known) parents name parent = guard (bytes_eq known parent) (Some parents)

-- whether declarations under a parent count. In the larger dialects those under `object` do not: a type without another parent is below
-- `object` anyway (this validator's choice)
unfoldable pub counts_as_parent : Dialect → List ℕ → Bool
counts_as_parent Strips parent = true
counts_as_parent Ipc parent = not (bytes_eq parent object_word)
counts_as_parent Adl parent = not (bytes_eq parent object_word)

-- a type is declared under a parent
unfoldable pub declared_under : Dialect → TypeParents → List ℕ → List ℕ → Option TypeParents
declared_under dialect parents name parent =
    (if counts_as_parent dialect parent then under (value_named parents name) parents name parent else Some parents)

-- the names of types and their parents, if there are both
unfoldable pub tables_of : Option TypeNames → Option TypeParents → Option TypeTables
tables_of None parents = None
tables_of (Some names) None = None
tables_of (Some names) (Some parents) = Some (record { names = names; parents = parents })

-- a word of a group is numbered, and declared under the parent of the group
unfoldable pub type_declared : Dialect → List ℕ → TypeTables → List ℕ → Option TypeTables
type_declared dialect parent tables word =
    tables_of (numbered tables.names (folded word)) (declared_under dialect tables.parents (folded word) (folded parent))

-- the parent is numbered after the types under it
unfoldable pub parent_numbered : List ℕ → Option TypeTables → Option TypeTables
parent_numbered parent None = None
parent_numbered parent (Some tables) = tables_of (numbered tables.names (folded parent)) (Some tables.parents)

-- the types of a group are declared
unfoldable pub group_declared : Dialect → TypeTables → NameGroup → Option TypeTables
group_declared dialect tables group = parent_numbered group.type (through (type_declared dialect group.type) tables group.names)

-- at first there is only `object`, which is its own parent
abbrev pub object_alone : TypeTables
object_alone = record { names = (object_word, tt) ∷ []; parents = (object_word, object_word) ∷ [] }

-- the types that groups declare
unfoldable pub types_declared : Dialect → List NameGroup → Option TypeTables
types_declared dialect groups = through (group_declared dialect) object_alone groups

-- the name of the parent of a type: `object` if the type is not declared
unfoldable pub parent_name : TypeParents → List ℕ → List ℕ
parent_name parents name = unwrap_or (value_named parents name) object_word

-- the number of the parent of a type
unfoldable pub parent_number : TypeTables → List ℕ → ℕ
parent_number tables name = unwrap_or (number_named tables.names (parent_name tables.parents name)) 0

-- for each type the number of its parent
unfoldable pub parents_of : TypeTables → List ℕ
parents_of tables = map (λ entry. parent_number tables entry.0) tables.names

-- whether all numbers below one pass a test
unfoldable pub all_below : (ℕ → Bool) → ℕ → Bool
all_below test zero = true
all_below test (suc n) = test n && all_below test n

-- whether parents form a tree: `object` is its own parent, each parent is a type, and each type is below `object`
unfoldable pub is_tree : List ℕ → Bool
is_tree parents =
    nat_lt 0 (length parents)
    && (nat_eq (slice_index parents 0) 0
    && (list_all (λ parent. nat_lt parent (length parents)) parents
    && all_below (λ type. is_below parents type 0) (length parents)))

-- exactly the trees below `object` pass the test
abbrev pub IsTreeTested : Type 0
IsTreeTested = (parents : List ℕ) → IsTrue (is_tree parents) ↔ IsTypeTree parents

-- in a tree no type but `object` is its own ancestor
abbrev pub HasNoCycles : Type 0
HasNoCycles = (parents : List ℕ) → IsTypeTree parents → (type steps : ℕ) → type < length parents → ancestor parents (suc steps) type ≡ type → type ≡ 0

-- the types with their order, if their parents form a tree
unfoldable pub ordered : Option TypeTables → Option KnownTypes
ordered None = None
ordered (Some tables) = guard (is_tree (parents_of tables)) (Some (record { names = tables.names; parents = parents_of tables }))

-- the types that a domain declares
unfoldable pub types_of : Dialect → List NameGroup → Option KnownTypes
types_of dialect groups = ordered (types_declared dialect groups)
