-- The number of a type's parent is that of the name that the type is declared under.

use Rattle.std.proofs.Common.{◌≡◌, ℕ, ◌+◌, ◌||◌, suc, Bool, true, false, not, cond, filter, map, flat_map, List, [], ◌∷◌, length, slice_get, unwrap_or, Option, Some, None, refl, ap, sym, ◌∙◌, subst, arith, if◌then◌else◌}
use Rattle.std.proofs.lemmas.Cmp.{nat_list_eq_equiv}
use Rattle.std.proofs.lemmas.List.{length-map}
use Rattle.std.proofs.lemmas.List.Folds.{list_any-append}
use Rattle.std.proofs.lemmas.Map.Views.{any-filter_same}
use Rattle.std.proofs.lemmas.Option.{slice_get-map}
use Rattle.std.proofs.lemmas.Slice.Eq.{bytes_eq-Decides}
use Rattle.std.specs.List.{list_any, position_from}
use Rattle.std.specs.Map.{keys_of}
use Rattle.std.specs.Option.{option_map}
use Rattle.std.specs.Str.{bytes_eq}
use Rattle.pddl_words.specs.Words.{folded}
use Rattle.strips_task.specs.FirstOccurrences.{first_occurrences}
use Rattle.strips_task.specs.Names.{number_named, are_distinct}
use Rattle.pddl_syntax.specs.declared.dialect.Dialect.{Dialect}
use Rattle.pddl_syntax.specs.Keywords.{object_word}
use Rattle.pddl_syntax.specs.Optional.{guard}
use Rattle.pddl_syntax.specs.Syntax.{NameGroup}
use Rattle.pddl_syntax.proofs.Guards.{guard_held}
use Rattle.pddl_reader.specs.Tables.{value_named}
use Rattle.pddl_reader.specs.TypeOrder.{TypeNames, counts_as_parent, types_declared, parent_name, parent_number, parents_of, is_tree, ordered, types_of}
use Rattle.reading_laws.proofs.NamedEntries.{entry_numbered}
use Rattle.strips_task.proofs.NamedEntries.{entry_at}
use Rattle.pddl_reader.proofs.TypeTests.{tree_from, tree_tested}
use Rattle.reading_laws.specs.DeclaredOnce.{is_same_entry, group_types, group_parents, AreTypesFrom, AreTypesDeclared}
use Rattle.reading_laws.specs.ReadTables.{KnownTypes}
use Rattle.reading_laws.proofs.DeclaredTypes.{TypeTables, AreTables, tables_declared, first_are_distinct, named, named_keys}
use Rattle.reading_laws.proofs.KeptEntries.{passes_at, value_entry}

-- one of two tests is passed
or_right : (b c : Bool) → c ≡ true → (b || c) ≡ true
or_right true c h = refl
or_right false c h = h

or_both : (a b c d : Bool) → (a ≡ true → c ≡ true) → (b ≡ true → d ≡ true) → (a || b) ≡ true → (c || d) ≡ true
or_both true b c d f g h = ap (λ x. x || d) (f refl)
or_both false b c d f g h = or_right c d (g h)

-- what passes a test and is kept was there
filtered_any : {A : Type 0} (p q : A → Bool) (xs : List A) → list_any p (filter q xs) ≡ true → list_any p xs ≡ true
filtered_any p q [] h = h
filtered_any {A} p q (x ∷ xs) h = by (q x) (filtered_any p q xs) h
  where
    by : (kept : Bool) → (list_any p (filter q xs) ≡ true → list_any p xs ≡ true) → list_any p (cond kept (x ∷ filter q xs) (filter q xs)) ≡ true → (p x || list_any p xs) ≡ true
    by true rest k = or_both (p x) (list_any p (filter q xs)) (p x) (list_any p xs) (λ e. e) rest k
    by false rest k = or_right (p x) (list_any p xs) (rest k)

-- and so was what passes it where it first occurs
first_any : {A : Type 0} (p : A → Bool) (eq : A → A → Bool) (xs : List A) → list_any p (first_occurrences eq xs) ≡ true → list_any p xs ≡ true
unfolding first_occurrences
first_any p eq [] h = h
first_any p eq (x ∷ xs) h =
    or_both (p x) (list_any p (filter (λ y. not (eq x y)) (first_occurrences eq xs))) (p x) (list_any p xs) (λ e. e)
    (λ k. first_any p eq xs (filtered_any p (λ y. not (eq x y)) (first_occurrences eq xs) k)) h

-- a name that is there is where it first occurs
any_first : (word : List ℕ) (words : List (List ℕ)) → list_any (bytes_eq word) words ≡ true → list_any (bytes_eq word) (first_occurrences bytes_eq words) ≡ true
unfolding first_occurrences
any_first word [] h = h
any_first word (w ∷ ws) h = by (bytes_eq word w) refl (any_first word ws) h
  where
    by : (b : Bool) → bytes_eq word w ≡ b → (list_any (bytes_eq word) ws ≡ true → list_any (bytes_eq word) (first_occurrences bytes_eq ws) ≡ true) →
        (b || list_any (bytes_eq word) ws) ≡ true → (b || list_any (bytes_eq word) (filter (λ y. not (bytes_eq w y)) (first_occurrences bytes_eq ws))) ≡ true
    by true e rest k = refl
    by false e rest k = any-filter_same (bytes_eq word) (λ y. not (bytes_eq w y)) true apart (first_occurrences bytes_eq ws) ∙ rest k
      where
        apart : (y : List ℕ) → bytes_eq word y ≡ true → not (bytes_eq w y) ≡ true
        apart y same = let is : word ≡ y = (bytes_eq-Decides word y).0 same in ap not (ap (bytes_eq w) (sym is) ∙ nat_list_eq_equiv.symm w word ∙ e)

-- and has a number
found_from : {A : Type 0} (p : A → Bool) (at : ℕ) (xs : List A) → list_any p xs ≡ true → (n : ℕ) × (position_from p at xs ≡ Some n)
found_from p at [] h = cc
found_from {A} p at (x ∷ xs) h = by (p x) (found_from p (at + 1) xs) h
  where
    by : (b : Bool) → (list_any p xs ≡ true → (n : ℕ) × (position_from p (at + 1) xs ≡ Some n)) → (b || list_any p xs) ≡ true →
        (n : ℕ) × (cond b (Some at) (position_from p (at + 1) xs) ≡ Some n)
    by true rest k = (at, refl)
    by false rest k = rest k

-- whether a name is the parent in a declaration
abbrev is_parent : List ℕ → List ℕ × List ℕ → Bool
is_parent word declaration = bytes_eq word declaration.1

-- the parent that a group declares is the group's, and is named
group_parent : (word type : List ℕ) (names : List (List ℕ)) → list_any (is_parent word) (map (λ name. (folded name, type)) names) ≡ true → bytes_eq word type ≡ true
group_parent word type [] h = cc
group_parent word type (n ∷ ns) h = by (bytes_eq word type) (group_parent word type ns) h
  where
    by : (b : Bool) → (list_any (is_parent word) (map (λ name. (folded name, type)) ns) ≡ true → b ≡ true) →
        (b || list_any (is_parent word) (map (λ name. (folded name, type)) ns)) ≡ true → b ≡ true
    by true rest k = refl
    by false rest k = rest k

parent_named : (dialect : Dialect) (group : NameGroup) (word : List ℕ) → list_any (is_parent word) (group_parents dialect group) ≡ true → list_any (bytes_eq word) (group_types group) ≡ true
unfolding group_parents group_types
parent_named dialect group word h =
    let is : bytes_eq word (folded group.type) ≡ true = by (counts_as_parent dialect (folded group.type)) h in
    list_any-append (bytes_eq word) (map folded group.names) (folded group.type ∷ [])
    ∙ or_right (list_any (bytes_eq word) (map folded group.names)) (bytes_eq word (folded group.type) || false) (ap (λ b. b || false) is)
  where
    by : (counts : Bool) → list_any (is_parent word) (if counts then map (λ name. (folded name, folded group.type)) group.names else []) ≡ true → bytes_eq word (folded group.type) ≡ true
    by true k = group_parent word (folded group.type) group.names k
    by false k = cc

-- and so are the parents of all groups
parents_named : (dialect : Dialect) (groups : List NameGroup) (word : List ℕ) → list_any (is_parent word) (flat_map (group_parents dialect) groups) ≡ true →
    list_any (bytes_eq word) (flat_map group_types groups) ≡ true
parents_named dialect [] word h = h
parents_named dialect (g ∷ gs) word h =
    list_any-append (bytes_eq word) (group_types g) (flat_map group_types gs)
    ∙ or_both (list_any (is_parent word) (group_parents dialect g)) (list_any (is_parent word) (flat_map (group_parents dialect) gs))
    (list_any (bytes_eq word) (group_types g)) (list_any (bytes_eq word) (flat_map group_types gs)) (parent_named dialect g word) (parents_named dialect gs word)
    (sym (list_any-append (is_parent word) (group_parents dialect g) (flat_map (group_parents dialect) gs)) ∙ h)

-- lists of the same length are the same if they have the same items
same_list : (xs ys : List ℕ) → length xs ≡ length ys → ((k x y : ℕ) → slice_get xs k ≡ Some x → slice_get ys k ≡ Some y → x ≡ y) → xs ≡ ys
same_list [] [] long same = refl
same_list [] (y ∷ ys) long same = absurd (omega arith)
same_list (x ∷ xs) [] long same = absurd (omega arith)
same_list (x ∷ xs) (y ∷ ys) long same =
    let shorter : length xs ≡ length ys = omega arith in
    λ j. same 0 x y refl refl j ∷ same_list xs ys shorter (λ k a b p q. same (suc k) a b p q) j

-- the number of a parent depends on the name of the type alone
parents_by_name : (tables : TypeTables) (names : TypeNames) → map (λ (entry : List ℕ × Unit {0}). parent_number tables entry.0) names ≡ map (parent_number tables) (keys_of names)
parents_by_name tables [] = refl
parents_by_name tables (n ∷ ns) = ap (λ l. parent_number tables n.0 ∷ l) (parents_by_name tables ns)

-- the parents by number, by the names of the types
parents_keys : (tables : TypeTables) → parents_of tables ≡ map (parent_number tables) (keys_of tables.names)
unfolding parents_of
parents_keys tables = parents_by_name tables tables.names

-- a parent that is numbered has that number
number_is : (tables : TypeTables) (name : List ℕ) (n : ℕ) → number_named tables.names (parent_name tables.parents name) ≡ Some n → parent_number tables name ≡ n
unfolding parent_number
number_is tables name n h = ap (λ o. unwrap_or o 0) h

module _ (dialect : Dialect) (groups : List NameGroup) (tables : TypeTables) (all : AreTables dialect groups tables) where
  -- a name that is written is numbered
  word_found : (word : List ℕ) → list_any (bytes_eq word) (object_word ∷ flat_map group_types groups) ≡ true → (n : ℕ) × (number_named tables.names word ≡ Some n)
  unfolding number_named
  word_found word h =
      found_from (bytes_eq word) 0 (keys_of tables.names) (ap (list_any (bytes_eq word)) all.names ∙ any_first word (object_word ∷ flat_map group_types groups) h)

  -- and so is the parent of each type
  parent_found : (name : List ℕ) → (n : ℕ) × (number_named tables.names (parent_name tables.parents name) ≡ Some n)
  unfolding parent_name
  parent_found name = by (value_named tables.parents name) refl
    where
      by : (found : Option (List ℕ)) → value_named tables.parents name ≡ found → (n : ℕ) × (number_named tables.names (unwrap_or (value_named tables.parents name) object_word) ≡ Some n)
      by None e =
          subst (λ w. (n : ℕ) × (number_named tables.names w ≡ Some n)) (sym (ap (λ o. unwrap_or o object_word) e))
          (word_found object_word (ap (λ b. b || list_any (bytes_eq object_word) (flat_map group_types groups)) ((bytes_eq-Decides object_word object_word).1 refl)))
      by (Some p) e =
          let entry = value_entry tables.parents name p e in
          let has : list_any (is_parent p) tables.parents ≡ true = passes_at (is_parent p) tables.parents entry.0 (name, p) entry.1 ((bytes_eq-Decides p p).1 refl) in
          let had : list_any (is_parent p) ((object_word, object_word) ∷ flat_map (group_parents dialect) groups) ≡ true =
          first_any (is_parent p) (is_same_entry bytes_eq) ((object_word, object_word) ∷ flat_map (group_parents dialect) groups) (sym (ap (list_any (is_parent p)) all.parents) ∙ has) in
          subst (λ w. (n : ℕ) × (number_named tables.names w ≡ Some n)) (sym (ap (λ o. unwrap_or o object_word) e))
          (word_found p (or_both (bytes_eq p object_word) (list_any (is_parent p) (flat_map (group_parents dialect) groups))
          (bytes_eq p object_word) (list_any (bytes_eq p) (flat_map group_types groups)) (λ k. k) (parents_named dialect groups p) had))

  -- the type above another is the one that it is declared under
  parent_above : (type number : ℕ) (name : List ℕ) → slice_get (keys_of tables.names) type ≡ Some name → slice_get (parents_of tables) type ≡ Some number →
      slice_get (keys_of tables.names) number ≡ Some (parent_name tables.parents name)
  parent_above type number name h k =
      let found = parent_found name in
      let n : ℕ = found.0 in
      let both : Some number ≡ Some n =
      sym k ∙ ap (λ l. slice_get l type) (parents_keys tables) ∙ slice_get-map (parent_number tables) (keys_of tables.names) type
      ∙ ap (option_map (parent_number tables)) h ∙ ap Some (number_is tables name n found.1) in
      let is : number ≡ n = cc in
      let entry = entry_at tables.names (parent_name tables.parents name) n found.1 in
      subst (λ i. slice_get (keys_of tables.names) i ≡ Some (parent_name tables.parents name)) (sym is)
      (slice_get-map (λ (e : List ℕ × Unit {0}). e.0) tables.names n ∙ ap (option_map (λ (e : List ℕ × Unit {0}). e.0)) entry.1)

  -- no name of a type stands twice
  distinct : are_distinct (keys_of tables.names) ≡ true
  distinct = ap are_distinct all.names ∙ first_are_distinct (object_word ∷ flat_map group_types groups)

  -- the number of a name is its index
  name_numbered : (number : ℕ) (word : List ℕ) → slice_get (keys_of tables.names) number ≡ Some word → number_named tables.names word ≡ Some number
  unfolding number_named
  name_numbered number word h =
      let entry : slice_get tables.names number ≡ Some (named word) =
      ap (λ l. slice_get l number) (named_keys tables.names) ∙ slice_get-map named (keys_of tables.names) number ∙ ap (option_map named) h in
      entry_numbered 0 tables.names number word tt distinct entry ∙ ap Some (let e : 0 + number ≡ number = omega arith in e)

  -- numbers of the types that the types are declared under are their parents
  parents_are : (numbers : List ℕ) → length numbers ≡ length tables.names →
      ((type number : ℕ) (name : List ℕ) → slice_get (keys_of tables.names) type ≡ Some name → slice_get numbers type ≡ Some number →
      slice_get (keys_of tables.names) number ≡ Some (parent_name tables.parents name)) →
      numbers ≡ parents_of tables
  parents_are numbers long above = same_list numbers (map (parent_number tables) (keys_of tables.names)) (long ∙ sym many) same ∙ sym (parents_keys tables)
    where
      many : length (map (parent_number tables) (keys_of tables.names)) ≡ length tables.names
      many = length-map (keys_of tables.names) (parent_number tables) ∙ length-map tables.names (λ (e : List ℕ × Unit {0}). e.0)

      same : (k x y : ℕ) → slice_get numbers k ≡ Some x → slice_get (map (parent_number tables) (keys_of tables.names)) k ≡ Some y → x ≡ y
      same k x y p q = by (slice_get (keys_of tables.names) k) refl (sym (slice_get-map (parent_number tables) (keys_of tables.names) k) ∙ q)
        where
          by : (found : Option (List ℕ)) → slice_get (keys_of tables.names) k ≡ found → option_map (parent_number tables) found ≡ Some y → x ≡ y
          by None e r = cc
          by (Some name) e r =
              let is : parent_number tables name ≡ y = cc in
              sym (number_is tables name x (name_numbered x (parent_name tables.parents name) (above k x name e p))) ∙ is

-- the types are those whose parents form a tree
pub types_declared_so : AreTypesDeclared
unfolding types_of ordered guard
types_declared_so dialect groups types = (λ h. by (types_declared dialect groups) refl h, back)
  where
    given : (t : TypeTables) (known : KnownTypes) → AreTables dialect groups t → is_tree (parents_of t) ≡ true → record { names = t.names; parents = parents_of t } ≡ known → AreTypesFrom dialect groups known
    given t known all tree is = subst (AreTypesFrom dialect groups) is (record {
      declared = t.parents;
      names = all.names;
      few = all.few;
      parents = all.parents;
      one_parent = all.one_parent;
      all = ap length (parents_keys t) ∙ length-map (keys_of t.names) (parent_number t) ∙ length-map t.names (λ (e : List ℕ × Unit {0}). e.0);
      above = parent_above dialect groups t all;
      tree = tree_from (parents_of t) tree;
    })

    by : (found : Option TypeTables) → types_declared dialect groups ≡ found → ordered found ≡ Some types → AreTypesFrom dialect groups types
    by None is k = cc
    by (Some t) is k =
        let held = guard_held (is_tree (parents_of t)) (record { names = t.names; parents = parents_of t }) types k in
        given t types ((tables_declared dialect groups t).0 is) held.0 held.1

    back : AreTypesFrom dialect groups types → ordered (types_declared dialect groups) ≡ Some types
    back from =
        let tables : TypeTables = record { names = types.names; parents = from.declared } in
        let all : AreTables dialect groups tables = record { names = from.names; few = from.few; parents = from.parents; one_parent = from.one_parent } in
        let numbers : types.parents ≡ parents_of tables = parents_are dialect groups tables all types.parents from.all from.above in
        let test : is_tree (parents_of tables) ≡ true = ap is_tree (sym numbers) ∙ tree_tested types.parents from.tree in
        let known : List ℕ → KnownTypes = λ (l : List ℕ). record { names = types.names; parents = l } in
        ap ordered ((tables_declared dialect groups tables).1 all)
        ∙ ap (λ b. guard b (Some (known (parents_of tables)))) test ∙ ap (λ l. Some (known l)) (sym numbers)
