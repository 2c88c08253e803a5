-- What lists of types and of objects declare, stated for the whole list. A name may be declared again in the same way, and then counts once.

use Rattle.std.specs.Prelude.{◌≡◌, ◌≤◌, ◌↔◌, ◌&&◌, IsTrue, ℕ, Bool, nat_eq, List, [], ◌∷◌, ◌++◌, map, length, slice_get, Option, Some, flat_map, if◌then◌else◌}
use Rattle.std.specs.Map.{keys_of}
use Rattle.std.specs.Option.{option_map}
use Rattle.std.specs.Str.{bytes_eq}
use Rattle.pddl_words.specs.Words.{folded}
use Rattle.strips_task.specs.FirstOccurrences.{first_occurrences}
use Rattle.strips_task.specs.Names.{are_distinct}
use Rattle.strips_task.specs.Types.{IsTypeTree}
use Rattle.strips_task.specs.WellFormed.{most_types, most_objects}
use Rattle.pddl_syntax.specs.declared.dialect.Dialect.{Dialect}
use Rattle.pddl_syntax.specs.Keywords.{object_word}
use Rattle.pddl_syntax.specs.Syntax.{NameGroup}
use Rattle.pddl_reader.specs.Objects.{Objects, type_number, objects_from}
use Rattle.pddl_reader.specs.TypeOrder.{TypeParents, counts_as_parent, parent_name, types_of}
use Rattle.reading_laws.specs.ReadTables.{KnownTypes}

-- whether two declarations are the same: they have the same name and the same value
abbrev pub is_same_entry : {V : Type 0} → (V → V → Bool) → List ℕ × V → List ℕ × V → Bool
is_same_entry same one other = bytes_eq one.0 other.0 && same one.1 other.1

-- the objects of a group: each name in lower case, with the number of their type if that is known
unfoldable pub group_objects : List (List ℕ) → NameGroup → Option Objects
group_objects types group = option_map (λ type. map (λ name. (folded name, type)) group.names) (type_number types group.type)

-- the objects are those before and then those that the groups declare, each once; every type is known, and no object has two
pub record AreObjectsFrom (types : List (List ℕ)) (before : Objects) (groups : List NameGroup) (objects : Objects) : Type 0 where
  pub declared : List Objects
  -- the type of each group is known, and these are the objects of each
  pub known : map (group_objects types) groups ≡ map Some declared
  -- each object is listed where it is declared first
  pub once : objects ≡ first_occurrences (is_same_entry nat_eq) (before ++ flat_map (λ os. os) declared)
  -- no object is declared with two types
  pub one_type : IsTrue (are_distinct (keys_of objects))
  -- and there are no more than the limit
  pub few : length objects ≤ most_objects

-- objects are accepted after others, and give this list, exactly if it is what they declare
abbrev pub AreObjectsDeclared : Type 0
AreObjectsDeclared = (types : List (List ℕ)) (before : Objects) (groups : List NameGroup) (objects : Objects) →
    IsTrue (are_distinct (keys_of before)) → length before ≤ most_objects →
    (objects_from types before groups ≡ Some objects) ↔ AreObjectsFrom types before groups objects

-- the types that a group names, in lower case: those that it declares, and then their parent
unfoldable pub group_types : NameGroup → List (List ℕ)
group_types group = map folded group.names ++ folded group.type ∷ []

-- the parents that a group declares: the parent of the group for each of its types, if declarations under that parent count
unfoldable pub group_parents : Dialect → NameGroup → List (List ℕ × List ℕ)
group_parents dialect group = (if counts_as_parent dialect (folded group.type) then map (λ name. (folded name, folded group.type)) group.names else [])

-- the types are `object` and those that the groups name, each once, and their parents are the declared ones, which form a tree
pub record AreTypesFrom (dialect : Dialect) (groups : List NameGroup) (types : KnownTypes) : Type 0 where
  pub declared : TypeParents
  -- each type is listed where it is named first, and `object` before all others
  pub names : keys_of types.names ≡ first_occurrences bytes_eq (object_word ∷ flat_map group_types groups)
  -- there are no more than the limit
  pub few : length types.names ≤ most_types
  -- each declaration of a parent counts once, and before all others `object` is under itself
  pub parents : declared ≡ first_occurrences (is_same_entry bytes_eq) ((object_word, object_word) ∷ flat_map (group_parents dialect) groups)
  -- no type is declared under two parents
  pub one_parent : IsTrue (are_distinct (keys_of declared))
  -- each type has the number of a parent
  pub all : length types.parents ≡ length types.names
  -- which is the type that it is declared under, or else `object`
  pub above : (type number : ℕ) (name : List ℕ) → slice_get (keys_of types.names) type ≡ Some name → slice_get types.parents type ≡ Some number →
      slice_get (keys_of types.names) number ≡ Some (parent_name declared name)
  -- and the parents form a tree
  pub tree : IsTypeTree types.parents

-- types are accepted, and give these names with their order, exactly if they are what is declared and their parents form a tree
abbrev pub AreTypesDeclared : Type 0
AreTypesDeclared = (dialect : Dialect) (groups : List NameGroup) (types : KnownTypes) → (types_of dialect groups ≡ Some types) ↔ AreTypesFrom dialect groups types
