-- What the tables of types and of objects keep.

use Rattle.std.proofs.Common.{◌≡◌, ℕ, ◌+◌, ◌<◌, ◌≤◌, ◌++◌, true, nat_eq, nat_lt, List, [], ◌∷◌, length, Option, Some, None, refl, subst, sym, ◌∙◌, arith, length-append, append_assoc}
use Rattle.std.proofs.lemmas.Bool.{ltb-true, lt-ltb}
use Rattle.std.proofs.lemmas.List.{length-map, map-append, append-nil}
use Rattle.std.proofs.lemmas.List.Folds.{list_all-append}
use Rattle.std.specs.List.{list_all}
use Rattle.std.specs.Map.{keys_of, values_of}
use Rattle.std.specs.Str.{bytes_eq}
use Rattle.pddl_words.specs.Words.{folded}
use Rattle.strips_task.specs.Names.{are_distinct}
use Rattle.strips_task.specs.Types.{IsTypeTree}
use Rattle.strips_task.proofs.NameNumbers.{entries_distinct}
use Rattle.pddl_reader.specs.declared.resolution.types.KnownTypes.{KnownTypes}
use Rattle.pddl_reader.specs.declared.resolution.types.TypeTables.{TypeTables}
use Rattle.pddl_reader.specs.Objects.{Objects, type_number, of_type, object_declared, objects_typed, objects_grouped, objects_from}
use Rattle.pddl_syntax.specs.Optional.{guard}
use Rattle.pddl_syntax.specs.Syntax.{NameGroup}
use Rattle.pddl_reader.specs.Tables.{value_named}
use Rattle.pddl_syntax.specs.declared.dialect.Dialect.{Dialect}
use Rattle.pddl_reader.specs.TypeOrder.{types_declared, parent_number, parents_of, is_tree, ordered, types_of}
use Rattle.pddl_syntax.proofs.Guards.{guard_held}
use Rattle.pddl_reader.proofs.NamedValues.{position-within, unnamed_value}
use Rattle.pddl_reader.proofs.Through.{through_keeps}
use Rattle.pddl_reader.proofs.TypeLemmas.{AreFew, declared-few}
use Rattle.pddl_reader.proofs.TypeTests.{tree_from}

-- names are distinct, there are no more than the limit, and their types are known
pub record AreObjects (count : ℕ) (objects : Objects) : Type 0 where
  pub distinct : are_distinct (keys_of objects) ≡ true
  pub few : length objects ≤ 65535
  pub typed : list_all (λ type. nat_lt type count) (values_of objects) ≡ true

pub no_objects : (count : ℕ) → AreObjects count []
unfolding are_distinct
no_objects count = record { distinct = refl; few = omega arith; typed = refl }

object_kept_by : (count type : ℕ) → type < count → (objects : Objects) (name : List ℕ) (more : Objects) (known : Option ℕ) → AreObjects count objects →
    value_named objects name ≡ known → of_type known objects name type ≡ Some more → AreObjects count more
unfolding of_type
object_kept_by count type lt objects name more (Some k) kept e h =
    subst (AreObjects count) (guard_held (nat_eq k type) objects more h).1 kept
object_kept_by count type lt objects name more None kept e h =
    let held = guard_held (nat_lt (length objects) 65535) (objects ++ (name, type) ∷ []) more h in
    let room : length objects < 65535 = ltb-true (length objects) 65535 held.0 in
    let P : Objects → Type 0 = λ o. AreObjects count o in
    subst P held.1 (record {
      distinct = entries_distinct objects name type (unnamed_value objects name e) kept.distinct;
      few = rw length-append (omega arith);
      typed =
          rw (map-append (λ (e : List ℕ × ℕ). e.1) objects ((name, type) ∷ []), list_all-append (λ type. nat_lt type count) (values_of objects) (type ∷ []), kept.typed, lt-ltb type count lt) refl;
    })

object_kept : (count type : ℕ) → type < count → (objects : Objects) (word : List ℕ) (more : Objects) → AreObjects count objects →
    object_declared type objects word ≡ Some more → AreObjects count more
unfolding object_declared
object_kept count type lt objects word more kept h = object_kept_by count type lt objects (folded word) more (value_named objects (folded word)) kept refl h

group_kept_by : (count : ℕ) (objects : Objects) (words : List (List ℕ)) (more : Objects) (type : Option ℕ) → ((t : ℕ) → type ≡ Some t → t < count) →
    AreObjects count objects → objects_typed type objects words ≡ Some more → AreObjects count more
unfolding objects_typed
group_kept_by count objects words more None within kept h = cc
group_kept_by count objects words more (Some t) within kept h =
    through_keeps (AreObjects count) (object_declared t) (λ o w m k e. object_kept count t (within t refl) o w m k e) objects words more kept h

-- the number of a type is one of theirs
pub type_number-within : (types : List (List ℕ)) (word : List ℕ) (t : ℕ) → type_number types word ≡ Some t → t < length types
unfolding type_number
type_number-within types word t h = let lt : t < 0 + length types = position-within (bytes_eq (folded word)) types 0 t h in omega arith

group_kept : (count : ℕ) (types : List (List ℕ)) → length types ≡ count → (objects : Objects) (group : NameGroup) (more : Objects) → AreObjects count objects →
    objects_grouped types objects group ≡ Some more → AreObjects count more
unfolding objects_grouped
group_kept count types is objects group more kept h =
    group_kept_by count objects group.names more (type_number types group.type)
    (λ t e. let lt : t < length types = type_number-within types group.type t e in omega arith) kept h

pub objects_kept : (count : ℕ) (types : List (List ℕ)) (objects : Objects) (groups : List NameGroup) (more : Objects) → length types ≡ count →
    AreObjects count objects → objects_from types objects groups ≡ Some more → AreObjects count more
unfolding objects_from
objects_kept count types objects groups more is kept h =
    through_keeps (AreObjects count) (objects_grouped types) (group_kept count types is) objects groups more kept h

-- one list of objects begins with another
abbrev pub IsFront : Objects → Objects → Type 0
IsFront front objects = (others : Objects) × (objects ≡ front ++ others)

object_behind_by : (front : Objects) (type : ℕ) (objects : Objects) (name : List ℕ) (more : Objects) (known : Option ℕ) → IsFront front objects →
    of_type known objects name type ≡ Some more → IsFront front more
unfolding of_type
object_behind_by front type objects name more (Some k) is h = (is.0, sym (guard_held (nat_eq k type) objects more h).1 ∙ is.1)
object_behind_by front type objects name more None is h =
    let held = guard_held (nat_lt (length objects) 65535) (objects ++ (name, type) ∷ []) more h in
    (is.0 ++ (name, type) ∷ [], sym held.1 ∙ (rw (is.1, append_assoc) refl))

object_behind : (front : Objects) (type : ℕ) (objects : Objects) (word : List ℕ) (more : Objects) → IsFront front objects →
    object_declared type objects word ≡ Some more → IsFront front more
unfolding object_declared
object_behind front type objects word more is h = object_behind_by front type objects (folded word) more (value_named objects (folded word)) is h

group_behind_by : (front objects : Objects) (words : List (List ℕ)) (more : Objects) (type : Option ℕ) → IsFront front objects →
    objects_typed type objects words ≡ Some more → IsFront front more
unfolding objects_typed
group_behind_by front objects words more None is h = cc
group_behind_by front objects words more (Some t) is h =
    through_keeps (IsFront front) (object_declared t) (object_behind front t) objects words more is h

group_behind : (front : Objects) (types : List (List ℕ)) (objects : Objects) (group : NameGroup) (more : Objects) → IsFront front objects →
    objects_grouped types objects group ≡ Some more → IsFront front more
unfolding objects_grouped
group_behind front types objects group more is h = group_behind_by front objects group.names more (type_number types group.type) is h

-- objects that are declared stand behind those before
pub objects_behind : (types : List (List ℕ)) (objects : Objects) (groups : List NameGroup) (more : Objects) →
    objects_from types objects groups ≡ Some more → IsFront objects more
unfolding objects_from
objects_behind types objects groups more h =
    through_keeps (IsFront objects) (objects_grouped types) (group_behind objects types) objects groups more ([], sym (append-nil objects)) h

-- types that are known form a tree, and each has a name
pub record AreKnown (types : KnownTypes) : Type 0 where
  pub tree : IsTypeTree types.parents
  pub few : length types.parents ≤ 1025
  pub named : length (keys_of types.names) ≡ length types.parents

known_by : (tables : TypeTables) (types : KnownTypes) → AreFew tables →
    guard (is_tree (parents_of tables)) (Some (record { names = tables.names; parents = parents_of tables })) ≡ Some types → AreKnown types
unfolding parents_of
known_by tables types few h =
    let held = guard_held (is_tree (parents_of tables)) (record { names = tables.names; parents = parents_of tables }) types h in
    let keys : length (keys_of tables.names) ≡ length tables.names = length-map tables.names (λ (entry : List ℕ × Unit {0}). entry.0) in
    let all : length (parents_of tables) ≡ length tables.names = length-map tables.names (λ (entry : List ℕ × Unit {0}). parent_number tables entry.0) in
    let most : length tables.names ≤ 1025 = few.few in
    subst AreKnown held.1 (record { tree = tree_from (parents_of tables) held.0; few = omega arith; named = keys ∙ sym all })

pub known_types : (dialect : Dialect) (groups : List NameGroup) (types : KnownTypes) → types_of dialect groups ≡ Some types → AreKnown types
unfolding types_of ordered
known_types dialect groups types h = by (types_declared dialect groups) (declared-few dialect groups) h
  where
    by : (tables : Option TypeTables) → ((t : TypeTables) → tables ≡ Some t → AreFew t) → ordered tables ≡ Some types → AreKnown types
    by None few e = cc
    by (Some t) few e = known_by t types (few t refl) e
