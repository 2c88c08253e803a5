-- Objects that are declared are those of all groups, once each.

use Rattle.std.proofs.Common.{◌≡◌, ℕ, ◌<◌, ◌≤◌, ◌||◌, ◌&&◌, Bool, true, false, not, cond, nat_eq, nat_lt, filter, map, flat_map, List, [], ◌∷◌, length, Option, Some, None, refl, ap, sym, ◌∙◌, subst, arith}
use Rattle.std.proofs.lemmas.Bool.{and_parts, or_parts, ltb-true, lt-ltb, eqb-true, not-true}
use Rattle.std.proofs.lemmas.Cmp.{nat_eq_equiv}
use Rattle.std.specs.List.{list_any}
use Rattle.std.specs.Map.{keys_of}
use Rattle.std.specs.Option.{option_and_then, option_map}
use Rattle.std.specs.Str.{bytes_eq}
use Rattle.pddl_words.specs.Words.{folded}
use Rattle.strips_task.specs.FirstOccurrences.{first_occurrences}
use Rattle.strips_task.specs.Names.{are_distinct}
use Rattle.pddl_syntax.specs.Optional.{through}
use Rattle.pddl_syntax.specs.Syntax.{NameGroup}
use Rattle.reading_laws.specs.DeclaredOnce.{is_same_entry, group_objects, AreObjectsFrom, AreObjectsDeclared}
use Rattle.pddl_reader.specs.Objects.{Objects, type_number, of_type, object_declared, objects_typed, objects_grouped, objects_from}
use Rattle.pddl_reader.specs.Tables.{value_named}
use Rattle.reading_laws.proofs.KeptEntries.{put_by, put, IsRoom, all_put, all_accepted}
use Rattle.reading_laws.proofs.ThroughLists.{through_same, through_append, through_map}

-- whether there is room for one object more
abbrev few : ℕ → Bool
few n = nat_lt n 65535

few_bound : IsRoom few (λ n. n ≤ 65535)
few_bound = record {
  grows = λ n m is h. let lt : n < 65535 = ltb-true n 65535 h in omega arith;
  is_there = λ n m lt le. lt-ltb n 65535 (omega arith);
  fewer = λ n m le h. omega arith;
}

object_put : (type : ℕ) (objects : Objects) (word : List ℕ) → object_declared type objects word ≡ put nat_eq few objects (folded word, type)
unfolding object_declared of_type put put_by
object_put type objects word = by (value_named objects (folded word))
  where
    by : (known : Option ℕ) → of_type known objects (folded word) type ≡ put_by nat_eq few known objects (folded word, type)
    by None = refl
    by (Some k) = refl

group_put : (types : List (List ℕ)) (objects : Objects) (group : NameGroup) →
    objects_grouped types objects group ≡ option_and_then (λ os. through (put nat_eq few) objects os) (group_objects types group)
unfolding objects_grouped objects_typed group_objects
group_put types objects group = by (type_number types group.type)
  where
    by : (type : Option ℕ) → objects_typed type objects group.names
        ≡ option_and_then (λ os. through (put nat_eq few) objects os) (option_map (λ t. map (λ name. (folded name, t)) group.names) type)
    by None = refl
    by (Some t) =
        through_same (object_declared t) (λ os word. put nat_eq few os (folded word, t)) (object_put t) objects group.names
        ∙ sym (through_map (put nat_eq few) (λ word. (folded word, t)) objects group.names)

-- the objects of all groups are put
record ArePut (types : List (List ℕ)) (before : Objects) (groups : List NameGroup) (objects : Objects) : Type 0 where
  declared : List Objects
  known : map (group_objects types) groups ≡ map Some declared
  put_all : through (put nat_eq few) before (flat_map (λ os. os) declared) ≡ Some objects

groups_put : (types : List (List ℕ)) (before : Objects) (groups : List NameGroup) (objects : Objects) → through (objects_grouped types) before groups ≡ Some objects → ArePut types before groups objects
unfolding through
groups_put types before [] objects h = record { declared = []; known = refl; put_all = h }
groups_put types before (g ∷ gs) objects h =
    by (group_objects types g) refl (λ t k. groups_put types t gs objects k)
    (ap (option_and_then (λ t. through (objects_grouped types) t gs)) (sym (group_put types before g)) ∙ h)
  where
    by : (found : Option Objects) → group_objects types g ≡ found → ((t : Objects) → through (objects_grouped types) t gs ≡ Some objects → ArePut types t gs objects) →
        option_and_then (λ t. through (objects_grouped types) t gs) (option_and_then (λ os. through (put nat_eq few) before os) found) ≡ Some objects → ArePut types before (g ∷ gs) objects
    by None is rest k = cc
    by (Some os) is rest k = step (through (put nat_eq few) before os) refl k
      where
        step : (next : Option Objects) → through (put nat_eq few) before os ≡ next → option_and_then (λ t. through (objects_grouped types) t gs) next ≡ Some objects → ArePut types before (g ∷ gs) objects
        step None e k = cc
        step (Some t) e k =
            let others = rest t k in
            record {
              declared = os ∷ others.declared;
              known = λ j. is j ∷ others.known j;
              put_all =
                  through_append (put nat_eq few) before os (flat_map (λ os. os) others.declared)
                  ∙ ap (option_and_then (λ t. through (put nat_eq few) t (flat_map (λ os. os) others.declared))) e ∙ others.put_all;
            }

groups_accepted : (types : List (List ℕ)) (before : Objects) (groups : List NameGroup) (declared : List Objects) (objects : Objects) → map (group_objects types) groups ≡ map Some declared →
    through (put nat_eq few) before (flat_map (λ os. os) declared) ≡ Some objects → through (objects_grouped types) before groups ≡ Some objects
unfolding through
groups_accepted types before [] [] objects known h = h
groups_accepted types before [] (os ∷ oss) objects known h = cc
groups_accepted types before (g ∷ gs) [] objects known h = cc
groups_accepted types before (g ∷ gs) (os ∷ oss) objects known h =
    let both : group_objects types g ∷ map (group_objects types) gs ≡ Some os ∷ map Some oss = known in
    let first : group_objects types g ≡ Some os = cc in
    let others : map (group_objects types) gs ≡ map Some oss = cc in
    ap (option_and_then (λ t. through (objects_grouped types) t gs))
    (group_put types before g ∙ ap (option_and_then (λ os. through (put nat_eq few) before os)) first)
    ∙ by (through (put nat_eq few) before os) (λ t k. groups_accepted types t gs oss objects others k)
    (sym (through_append (put nat_eq few) before os (flat_map (λ os. os) oss)) ∙ h)
  where
    by : (next : Option Objects) → ((t : Objects) → through (put nat_eq few) t (flat_map (λ os. os) oss) ≡ Some objects → through (objects_grouped types) t gs ≡ Some objects) →
        option_and_then (λ t. through (put nat_eq few) t (flat_map (λ os. os) oss)) next ≡ Some objects → option_and_then (λ t. through (objects_grouped types) t gs) next ≡ Some objects
    by None rest k = cc
    by (Some t) rest k = rest t k

-- what passes no test is kept by a filter for the others
none_dropped : {V : Type 0} (p : List ℕ × V → Bool) (xs : List (List ℕ × V)) → list_any p xs ≡ false → filter (λ y. not (p y)) xs ≡ xs
none_dropped p [] h = refl
none_dropped p (x ∷ xs) h =
    let parts = or_parts (p x) (list_any p xs) h in
    ap (λ b. cond (not b) (x ∷ filter (λ y. not (p y)) xs) (filter (λ y. not (p y)) xs)) parts.0 ∙ ap (λ l. x ∷ l) (none_dropped p xs parts.1)

-- entries whose name is another are not alike
unlike : {V : Type 0} (same : V → V → Bool) (e : List ℕ × V) (xs : List (List ℕ × V)) → list_any (bytes_eq e.0) (keys_of xs) ≡ false → list_any (is_same_entry same e) xs ≡ false
unlike same e [] h = refl
unlike same e (x ∷ xs) h =
    let parts = or_parts (bytes_eq e.0 x.0) (list_any (bytes_eq e.0) (keys_of xs)) h in
    ap (λ b. (b && same e.1 x.1) || list_any (is_same_entry same e) xs) parts.0 ∙ unlike same e xs parts.1

-- where names are distinct each entry is its own first occurrence
first_distinct : {V : Type 0} (same : V → V → Bool) (table : List (List ℕ × V)) → are_distinct (keys_of table) ≡ true → first_occurrences (is_same_entry same) table ≡ table
unfolding first_occurrences are_distinct
first_distinct same [] h = refl
first_distinct same (e ∷ es) h =
    let parts = and_parts (not (list_any (bytes_eq e.0) (keys_of es))) (are_distinct (keys_of es)) h in
    ap (λ l. e ∷ filter (λ y. not (is_same_entry same e y)) l) (first_distinct same es parts.1)
    ∙ ap (λ l. e ∷ l) (none_dropped (is_same_entry same e) es (unlike same e es (not-true (list_any (bytes_eq e.0) (keys_of es)) parts.0)))

pub objects_declared : AreObjectsDeclared
unfolding objects_from
objects_declared types before groups objects distinct short = (gives, accepts)
  where
    gives : through (objects_grouped types) before groups ≡ Some objects → AreObjectsFrom types before groups objects
    gives h =
        let all = groups_put types before groups objects h in
        let once = all_put nat_eq nat_eq_equiv eqb-true few (λ n. n ≤ 65535) few_bound before before (flat_map (λ os. os) all.declared) objects
        (sym (first_distinct nat_eq before distinct)) distinct short all.put_all in
        record { declared = all.declared; known = all.known; once = once.0; one_type = once.1; few = once.2 }

    accepts : AreObjectsFrom types before groups objects → through (objects_grouped types) before groups ≡ Some objects
    accepts all =
        groups_accepted types before groups all.declared objects all.known
        (ap (λ s. through (put nat_eq few) s (flat_map (λ os. os) all.declared)) (sym (first_distinct nat_eq before distinct))
        ∙ all_accepted nat_eq nat_eq_equiv eqb-true few (λ n. n ≤ 65535) few_bound before (flat_map (λ os. os) all.declared)
        (subst (λ o. are_distinct (keys_of o) ≡ true) all.once all.one_type) (subst (λ o. length o ≤ 65535) all.once all.few)
        ∙ ap Some (sym all.once))
