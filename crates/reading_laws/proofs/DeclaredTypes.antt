-- Types that are declared are those of all groups, once each, and so are their parents.

use Rattle.std.proofs.Common.{◌≡◌, ◌↔◌, ℕ, ◌<◌, ◌≤◌, ◌++◌, ◌&&◌, ◌||◌, Bool, true, false, not, cond, nat_lt, is_some, filter, map, flat_map, List, [], ◌∷◌, length, Option, Some, None, refl, ap, sym, ◌∙◌, subst, arith, if◌then◌else◌}
use Rattle.std.proofs.lemmas.Bool.{and_parts, or_parts, ltb-true, lt-ltb, not-true}
use Rattle.std.proofs.lemmas.List.{map-append}
use Rattle.std.proofs.lemmas.Slice.Eq.{bytes_eq-Decides}
use Rattle.std.proofs.lemmas.Cmp.{nat_list_eq_equiv}
use Rattle.std.proofs.lemmas.Map.Views.{any-filter_same}
use Rattle.std.specs.Cmp.{IsEquivalence}
use Rattle.std.specs.List.{list_any}
use Rattle.std.specs.Map.{keys_of}
use Rattle.std.specs.Option.{option_and_then}
use Rattle.std.specs.Str.{bytes_eq}
use Rattle.pddl_words.specs.Words.{folded}
use Rattle.strips_task.specs.FirstOccurrences.{first_occurrences}
use Rattle.strips_task.specs.Names.{number_named, are_distinct}
use Rattle.pddl_syntax.specs.declared.dialect.Dialect.{Dialect}
use Rattle.pddl_syntax.specs.Keywords.{object_word}
use Rattle.pddl_syntax.specs.Optional.{guard, through}
use Rattle.pddl_syntax.specs.Syntax.{NameGroup}
use Rattle.reading_laws.specs.DeclaredOnce.{is_same_entry, group_types, group_parents}
use Rattle.pddl_reader.specs.Tables.{value_named}
use Rattle.pddl_reader.specs.TypeOrder.{TypeNames, TypeParents, numbered, under, counts_as_parent, declared_under, tables_of, type_declared, parent_numbered, group_declared, object_alone, types_declared}
use Rattle.pddl_reader.proofs.CycleLemmas.{put_together}
use Rattle.reading_laws.proofs.KeptEntries.{put_by, put, IsRoom, all_put, all_accepted}
use Rattle.reading_laws.proofs.ThroughLists.{through_same, through_append, through_map, through_flat, through_idle, through_behind_one, through_both}
use Rattle.strips_task.proofs.NamedEntries.{entry_at}
use Rattle.pddl_reader.proofs.TableLemmas.{value_numbered, value_unnamed}
use Rattle.reading_laws.specs.ReadTables.{type_given}

-- the names of the types, and the declared parents
abbrev pub TypeTables : Type 0
TypeTables = type_given (Some object_alone)

-- whether there is room for one type more
abbrev few : ℕ → Bool
few n = nat_lt n 1025

few_bound : IsRoom few (λ n. n ≤ 1025)
few_bound = record {
  grows = λ n m is h. let lt : n < 1025 = ltb-true n 1025 h in omega arith;
  is_there = λ n m lt le. lt-ltb n 1025 (omega arith);
  fewer = λ n m le h. omega arith;
}

-- for parents there is always room
abbrev any : ℕ → Bool
any n = true

any_bound : IsRoom any (λ n. Unit {0})
any_bound = record { grows = λ n m is h. tt; is_there = λ n m lt fits. refl; fewer = λ n m le fits. tt }

-- a name has no value but one
abbrev alike : Unit {0} → Unit {0} → Bool
alike one other = true

alike_laws : IsEquivalence alike
alike_laws = record { refl = λ x. refl; symm = λ x y. refl; congr = λ x y z h. refl }

alike_decides : (v w : Unit {0}) → alike v w ≡ true → v ≡ w
alike_decides v w h = refl

-- a name as an entry of the numbered names
abbrev pub named : List ℕ → List ℕ × Unit {0}
named name = (name, tt)

name_put : (names : TypeNames) (name : List ℕ) → numbered names name ≡ put alike few names (named name)
unfolding numbered put put_by guard
name_put names name = by (number_named names name) refl
  where
    by : (found : Option ℕ) → number_named names name ≡ found →
        (if is_some (number_named names name) then Some names else guard (nat_lt (length names) 1025) (Some (names ++ (name, tt) ∷ [])))
        ≡ put_by alike few (value_named names name) names (named name)
    by None e =
        ap (λ (f : Option ℕ). if is_some f then Some names else guard (nat_lt (length names) 1025) (Some (names ++ (name, tt) ∷ []))) e
        ∙ ap (λ v. put_by alike few v names (named name)) (sym (value_unnamed names name e))
    by (Some n) e =
        let entry = entry_at names name n e in
        ap (λ (f : Option ℕ). if is_some f then Some names else guard (nat_lt (length names) 1025) (Some (names ++ (name, tt) ∷ []))) e
        ∙ ap (λ v. put_by alike few v names (named name)) (sym (value_numbered names name name n entry.0 e entry.1))

parent_put : (parents : TypeParents) (name parent : List ℕ) → under (value_named parents name) parents name parent ≡ put bytes_eq any parents (name, parent)
unfolding under put put_by guard
parent_put parents name parent = by (value_named parents name)
  where
    by : (known : Option (List ℕ)) → under known parents name parent ≡ put_by bytes_eq any known parents (name, parent)
    by None = refl
    by (Some k) = refl

-- the parents of a group are put
parents_put : (counts : Bool) (parent : List ℕ) (parents : TypeParents) (words : List (List ℕ)) →
    through (λ ps word. if counts then under (value_named ps (folded word)) ps (folded word) parent else Some ps) parents words
    ≡ through (put bytes_eq any) parents (if counts then map (λ word. (folded word, parent)) words else [])
unfolding through
parents_put true parent parents words =
    through_same (λ ps word. under (value_named ps (folded word)) ps (folded word) parent) (λ ps word. put bytes_eq any ps (folded word, parent)) (λ ps word. parent_put ps (folded word) parent) parents words
    ∙ sym (through_map (put bytes_eq any) (λ word. (folded word, parent)) parents words)
parents_put false parent parents words = through_idle parents words

-- the names of a group's types are put
names_put : (names : TypeNames) (words : List (List ℕ)) → through (λ ns word. numbered ns (folded word)) names words ≡ through (put alike few) names (map (λ word. named (folded word)) words)
names_put names words =
    through_same (λ ns word. numbered ns (folded word)) (λ ns word. put alike few ns (named (folded word))) (λ ns word. name_put ns (folded word)) names words
    ∙ sym (through_map (put alike few) (λ word. named (folded word)) names words)

-- and then the name of their parent
parent_behind : (parent : List ℕ) (names : Option TypeNames) (parents : Option TypeParents) →
    parent_numbered parent (tables_of names parents) ≡ tables_of (option_and_then (λ ns. put alike few ns (named (folded parent))) names) parents
unfolding parent_numbered tables_of
parent_behind parent None parents = refl
parent_behind parent (Some ns) None = by (put alike few ns (named (folded parent)))
  where
    by : (next : Option TypeNames) → None ≡ tables_of next None
    by None = refl
    by (Some n) = refl
parent_behind parent (Some ns) (Some ps) = ap (λ n. tables_of n (Some ps)) (name_put ns (folded parent))

named_map : (words : List (List ℕ)) → map (λ word. named (folded word)) words ≡ map named (map folded words)
named_map [] = refl
named_map (w ∷ ws) = ap (λ l. named (folded w) ∷ l) (named_map ws)

group_put : (dialect : Dialect) (tables : TypeTables) (group : NameGroup) → group_declared dialect tables group
    ≡ tables_of (through (put alike few) tables.names (map named (group_types group))) (through (put bytes_eq any) tables.parents (group_parents dialect group))
unfolding group_declared type_declared declared_under group_types group_parents
group_put dialect tables group =
    ap (parent_numbered group.type) (through_both (λ ns word. numbered ns (folded word))
    (λ ps word. if counts_as_parent dialect (folded group.type) then under (value_named ps (folded word)) ps (folded word) (folded group.type) else Some ps)
    tables.names tables.parents group.names)
    ∙ parent_behind group.type (through (λ ns word. numbered ns (folded word)) tables.names group.names)
    (through (λ ps word. if counts_as_parent dialect (folded group.type) then under (value_named ps (folded word)) ps (folded word) (folded group.type) else Some ps) tables.parents group.names)
    ∙ (λ j. tables_of (names j) (parents_put (counts_as_parent dialect (folded group.type)) (folded group.type) tables.parents group.names j))
  where
    entries : map (λ word. named (folded word)) group.names ++ named (folded group.type) ∷ [] ≡ map named (map folded group.names ++ folded group.type ∷ [])
    entries = ap (λ l. l ++ named (folded group.type) ∷ []) (named_map group.names) ∙ sym (map-append named (map folded group.names) (folded group.type ∷ []))

    names : option_and_then (λ ns. put alike few ns (named (folded group.type))) (through (λ ns word. numbered ns (folded word)) tables.names group.names)
        ≡ through (put alike few) tables.names (map named (map folded group.names ++ folded group.type ∷ []))
    names =
        ap (option_and_then (λ ns. put alike few ns (named (folded group.type)))) (names_put tables.names group.names)
        ∙ through_behind_one (put alike few) (through (put alike few) tables.names (map (λ word. named (folded word)) group.names)) (named (folded group.type))
        ∙ sym (through_append (put alike few) tables.names (map (λ word. named (folded word)) group.names) (named (folded group.type) ∷ []))
        ∙ ap (through (put alike few) tables.names) entries

-- the names of all groups are put, and beside them their parents
groups_put : (dialect : Dialect) (groups : List NameGroup) → types_declared dialect groups
    ≡ tables_of (through (put alike few) (named object_word ∷ []) (flat_map (λ g. map named (group_types g)) groups))
    (through (put bytes_eq any) ((object_word, object_word) ∷ []) (flat_map (group_parents dialect) groups))
unfolding types_declared
groups_put dialect groups =
    through_same (group_declared dialect)
    (λ t g. tables_of (through (put alike few) t.names (map named (group_types g))) (through (put bytes_eq any) t.parents (group_parents dialect g))) (group_put dialect) object_alone groups
    ∙ through_both (λ ns g. through (put alike few) ns (map named (group_types g))) (λ ps g. through (put bytes_eq any) ps (group_parents dialect g)) (named object_word ∷ []) ((object_word, object_word) ∷ []) groups
    ∙ (λ j. tables_of (through_flat (put alike few) (λ g. map named (group_types g)) (named object_word ∷ []) groups j)
    (through_flat (put bytes_eq any) (group_parents dialect) ((object_word, object_word) ∷ []) groups j))

named_flat : (groups : List NameGroup) → flat_map (λ g. map named (group_types g)) groups ≡ map named (flat_map group_types groups)
named_flat [] = refl
named_flat (g ∷ gs) = ap (λ l. map named (group_types g) ++ l) (named_flat gs) ∙ sym (map-append named (group_types g) (flat_map group_types gs))

-- the names of entries, and entries of names
keys_named : (words : List (List ℕ)) → keys_of (map named words) ≡ words
keys_named [] = refl
keys_named (w ∷ ws) = ap (λ l. w ∷ l) (keys_named ws)

pub named_keys : (names : TypeNames) → names ≡ map named (keys_of names)
named_keys [] = refl
named_keys (n ∷ ns) = ap (λ l. named n.0 ∷ l) (named_keys ns)

filter_named : (word : List ℕ) (words : List (List ℕ)) → filter (λ y. not (is_same_entry alike (named word) y)) (map named words) ≡ map named (filter (λ y. not (bytes_eq word y)) words)
filter_named word [] = refl
filter_named word (w ∷ ws) = by (bytes_eq word w) (filter_named word ws)
  where
    by : (b : Bool) → filter (λ y. not (is_same_entry alike (named word) y)) (map named ws) ≡ map named (filter (λ y. not (bytes_eq word y)) ws) →
        cond (not (b && true)) (named w ∷ filter (λ y. not (is_same_entry alike (named word) y)) (map named ws)) (filter (λ y. not (is_same_entry alike (named word) y)) (map named ws))
        ≡ map named (cond (not b) (w ∷ filter (λ y. not (bytes_eq word y)) ws) (filter (λ y. not (bytes_eq word y)) ws))
    by true rest = rest
    by false rest = ap (λ l. named w ∷ l) rest

first_named : (words : List (List ℕ)) → first_occurrences (is_same_entry alike) (map named words) ≡ map named (first_occurrences bytes_eq words)
unfolding first_occurrences
first_named [] = refl
first_named (w ∷ ws) =
    ap (λ l. named w ∷ l) (ap (filter (λ y. not (is_same_entry alike (named w) y))) (first_named ws) ∙ filter_named w (first_occurrences bytes_eq ws))

-- a test passes nothing that it filters out, and no more in fewer items
none_left : {A : Type 0} (p : A → Bool) (xs : List A) → list_any p (filter (λ y. not (p y)) xs) ≡ false
none_left p xs = any-filter_same p (λ y. not (p y)) false (λ x e. ap not e) xs

none_filtered : {A : Type 0} (p q : A → Bool) (xs : List A) → list_any p xs ≡ false → list_any p (filter q xs) ≡ false
none_filtered p q [] h = refl
none_filtered p q (x ∷ xs) h =
    let parts = or_parts (p x) (list_any p xs) h in
    by (q x) parts.0 (none_filtered p q xs parts.1)
  where
    by : (b : Bool) → p x ≡ false → list_any p (filter q xs) ≡ false → list_any p (cond b (x ∷ filter q xs) (filter q xs)) ≡ false
    by true e rest = ap (λ b. b || list_any p (filter q xs)) e ∙ rest
    by false e rest = rest

distinct_filtered : (q : List ℕ → Bool) (names : List (List ℕ)) → are_distinct names ≡ true → are_distinct (filter q names) ≡ true
unfolding are_distinct
distinct_filtered q [] h = refl
distinct_filtered q (n ∷ ns) h =
    let parts = and_parts (not (list_any (bytes_eq n) ns)) (are_distinct ns) h in
    by (q n) (none_filtered (bytes_eq n) q ns (not-true (list_any (bytes_eq n) ns) parts.0)) (distinct_filtered q ns parts.1)
  where
    by : (b : Bool) → list_any (bytes_eq n) (filter q ns) ≡ false → are_distinct (filter q ns) ≡ true → are_distinct (cond b (n ∷ filter q ns) (filter q ns)) ≡ true
    by true none rest = λ j. not (none j) && rest j
    by false none rest = rest

-- the first occurrences of names are distinct
pub first_are_distinct : (names : List (List ℕ)) → are_distinct (first_occurrences bytes_eq names) ≡ true
unfolding first_occurrences are_distinct
first_are_distinct [] = refl
first_are_distinct (n ∷ ns) =
    λ j. not (none_left (bytes_eq n) (first_occurrences bytes_eq ns) j) && distinct_filtered (λ y. not (bytes_eq n y)) (first_occurrences bytes_eq ns) (first_are_distinct ns) j

-- the tables have the declared names and parents, each once, and no type has two parents
pub record AreTables (dialect : Dialect) (groups : List NameGroup) (tables : TypeTables) : Type 0 where
  pub names : keys_of tables.names ≡ first_occurrences bytes_eq (object_word ∷ flat_map group_types groups)
  pub few : length tables.names ≤ 1025
  pub parents : tables.parents ≡ first_occurrences (is_same_entry bytes_eq) ((object_word, object_word) ∷ flat_map (group_parents dialect) groups)
  pub one_parent : are_distinct (keys_of tables.parents) ≡ true

-- types are declared exactly if they give such tables
pub tables_declared : (dialect : Dialect) (groups : List NameGroup) (tables : TypeTables) → (types_declared dialect groups ≡ Some tables) ↔ AreTables dialect groups tables
unfolding tables_of first_occurrences are_distinct
tables_declared dialect groups tables = (gives, accepts)
  where
    gives : types_declared dialect groups ≡ Some tables → AreTables dialect groups tables
    gives h =
        let parts = put_together (through (put alike few) (named object_word ∷ []) (flat_map (λ g. map named (group_types g)) groups))
        (through (put bytes_eq any) ((object_word, object_word) ∷ []) (flat_map (group_parents dialect) groups)) tables (sym (groups_put dialect groups) ∙ h) in
        let names = all_put alike alike_laws alike_decides few (λ n. n ≤ 1025) few_bound (named object_word ∷ []) (named object_word ∷ [])
        (flat_map (λ g. map named (group_types g)) groups) tables.names refl refl (omega arith) parts.0 in
        let parents = all_put bytes_eq nat_list_eq_equiv (λ v w e. (bytes_eq-Decides v w).0 e) any (λ n. Unit {0}) any_bound ((object_word, object_word) ∷ []) ((object_word, object_word) ∷ [])
        (flat_map (group_parents dialect) groups) tables.parents refl refl tt parts.1 in
        record {
          names =
              ap keys_of (names.0 ∙ ap (λ l. first_occurrences (is_same_entry alike) (named object_word ∷ l)) (named_flat groups) ∙ first_named (object_word ∷ flat_map group_types groups))
              ∙ keys_named (first_occurrences bytes_eq (object_word ∷ flat_map group_types groups));
          few = names.2;
          parents = parents.0;
          one_parent = parents.1;
        }

    accepts : AreTables dialect groups tables → types_declared dialect groups ≡ Some tables
    accepts all =
        groups_put dialect groups
        ∙ (λ j. tables_of ((all_accepted alike alike_laws alike_decides few (λ n. n ≤ 1025) few_bound (named object_word ∷ []) (flat_map (λ g. map named (group_types g)) groups)
        (subst (λ ns. are_distinct (keys_of ns) ≡ true) names distinct) (subst (λ ns. length ns ≤ 1025) names all.few) ∙ ap Some (sym names)) j)
        ((all_accepted bytes_eq nat_list_eq_equiv (λ v w e. (bytes_eq-Decides v w).0 e) any (λ n. Unit {0}) any_bound ((object_word, object_word) ∷ []) (flat_map (group_parents dialect) groups)
        (subst (λ ps. are_distinct (keys_of ps) ≡ true) all.parents all.one_parent) tt ∙ ap Some (sym all.parents)) j))
      where
        names : tables.names ≡ first_occurrences (is_same_entry alike) (named object_word ∷ flat_map (λ g. map named (group_types g)) groups)
        names =
            named_keys tables.names ∙ ap (map named) all.names ∙ sym (first_named (object_word ∷ flat_map group_types groups))
            ∙ ap (λ l. first_occurrences (is_same_entry alike) (named object_word ∷ l)) (sym (named_flat groups))

        distinct : are_distinct (keys_of tables.names) ≡ true
        distinct = ap are_distinct all.names ∙ first_are_distinct (object_word ∷ flat_map group_types groups)
