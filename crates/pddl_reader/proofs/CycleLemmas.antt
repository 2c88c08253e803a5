-- The first declared type under itself is found where there is one, and only there.

use Rattle.std.proofs.Common.{◌≡◌, ◌≢◌, ℕ, ◌+◌, ◌<◌, ◌++◌, ◌&&◌, ◌⊎◌, inl, inr, Bool, true, false, cond, nat_lt, is_some, List, [], ◌∷◌, length, slice_index, get_or, Option, Some, None, unwrap_or, All, refl, ap, sym, ◌∙◌, subst, true≢false, arith, if◌then◌else◌}
use Rattle.std.proofs.lemmas.Bool.{or_parts, or_from, and_parts, lt-ltb, ltb-true}
use Rattle.std.proofs.lemmas.List.{length-map}
use Rattle.std.proofs.lemmas.Option.{slice_get-map, slice_get_within, get_or_from_slice_get}
use Rattle.std.proofs.lemmas.Slice.Eq.{bytes_eq-Decides}
use Rattle.std.specs.List.{list_any, position_from, slice_get}
use Rattle.std.specs.Map.{keys_of}
use Rattle.std.specs.Option.{option_and_then, option_map}
use Rattle.std.specs.Str.{bytes_eq}
use Rattle.pddl_words.specs.Words.{folded}
use Rattle.strips_task.specs.Names.{number_named}
use Rattle.strips_task.specs.Types.{IsTypeTree, is_within, is_below, ancestor}
use Rattle.strips_task.proofs.Numbered.{item_within}
use Rattle.strips_task.proofs.TypeTrees.{below_from_within, ancestor-object}
use Rattle.pddl_reader.specs.declared.resolution.types.TypeTables.{TypeTables}
use Rattle.pddl_syntax.specs.declared.dialect.Dialect.{Dialect}
use Rattle.pddl_syntax.specs.Keywords.{object_word}
use Rattle.pddl_syntax.specs.Optional.{guard, through}
use Rattle.pddl_syntax.specs.Syntax.{NameGroup}
use Rattle.pddl_reader.specs.Tables.{value_at, value_named}
use Rattle.pddl_reader.specs.TypeOrder.{TypeNames, TypeParents, numbered, under, counts_as_parent, declared_under, tables_of, type_declared, parent_numbered, group_declared, object_alone, types_declared, parent_name, parent_number, parents_of, is_tree}
use Rattle.pddl_reader.specs.TypeCycles.{is_under_itself, numbers_cycle, names_cycle, declares_cycle}
use Rattle.pddl_syntax.proofs.Guards.{guard_held}
use Rattle.pddl_reader.proofs.Through.{through_keeps}
use Rattle.pddl_reader.proofs.TypeCycles.{tree_without_cycles}
use Rattle.strips_task.proofs.NamedEntries.{entry_at}
use Rattle.pddl_reader.proofs.TypeLemmas.{parent_unnamed}
use Rattle.pddl_reader.proofs.TypeTests.{tree_from, no_cycle}

-- the index of a name among entries that are numbered from a number on
abbrev index : {V : Type 0} → List ℕ → ℕ → List (List ℕ × V) → Option ℕ
index name at entries = position_from (bytes_eq name) at (keys_of entries)

-- a name that is found among entries and one more is found among the entries, or is the new one
named-push : {V : Type 0} (name key : List ℕ) (v : V) (at : ℕ) (entries : List (List ℕ × V)) →
    is_some (position_from (bytes_eq name) at (keys_of (entries ++ (key, v) ∷ []))) ≡ true →
    (is_some (position_from (bytes_eq name) at (keys_of entries)) ≡ true) ⊎ (name ≡ key)
named-push {V} name key v at [] h = by (bytes_eq name key) refl h
  where
    by : (test : Bool) → bytes_eq name key ≡ test → is_some {T = ℕ} (cond (bytes_eq name key) (Some at) None) ≡ true →
        (is_some (index {V = V} name at []) ≡ true) ⊎ (name ≡ key)
    by true e k = inr ((bytes_eq-Decides name key).0 e)
    by false e k = absurd (true≢false (sym k ∙ ap (λ b. is_some {T = ℕ} (cond b (Some at) None)) e))
named-push {V} name key v at ((first, w) ∷ entries) h = by (named-push name key v (at + 1) entries) (bytes_eq name first) refl h
  where
    by : (is_some (index name (at + 1) (entries ++ (key, v) ∷ [])) ≡ true → (is_some (index name (at + 1) entries) ≡ true) ⊎ (name ≡ key)) →
        (test : Bool) → bytes_eq name first ≡ test → is_some (cond (bytes_eq name first) (Some at) (index name (at + 1) (entries ++ (key, v) ∷ []))) ≡ true →
        (is_some (cond (bytes_eq name first) (Some at) (index name (at + 1) entries)) ≡ true) ⊎ (name ≡ key)
    by rest true e k = inl (ap (λ b. is_some (cond b (Some at) (index name (at + 1) entries))) e)
    by rest false e k = on (rest (sym (ap (λ b. is_some (cond b (Some at) (index name (at + 1) (entries ++ (key, v) ∷ [])))) e) ∙ k))
      where
        on : (is_some (index name (at + 1) entries) ≡ true) ⊎ (name ≡ key) → (is_some (cond (bytes_eq name first) (Some at) (index name (at + 1) entries)) ≡ true) ⊎ (name ≡ key)
        on (inl there) = inl (ap (λ b. is_some (cond b (Some at) (index name (at + 1) entries))) e ∙ there)
        on (inr same) = inr same

-- `object` stands first
record HasObject (tables : TypeTables) : Type 0 where
  names : (more : TypeNames) × (tables.names ≡ (object_word, tt) ∷ more)
  parents : (more : TypeParents) × (tables.parents ≡ (object_word, object_word) ∷ more)

numbered-begins : (names next : TypeNames) (name : List ℕ) → (more : TypeNames) × (names ≡ (object_word, tt) ∷ more) → numbered names name ≡ Some next →
    (more : TypeNames) × (next ≡ (object_word, tt) ∷ more)
unfolding numbered
numbered-begins names next name begins h = by (is_some (number_named names name)) h
  where
    by : (test : Bool) → (if test then Some names else guard (nat_lt (length names) 1025) (Some (names ++ (name, tt) ∷ []))) ≡ Some next →
        (more : TypeNames) × (next ≡ (object_word, tt) ∷ more)
    by true e = let same : names ≡ next = cc in (begins.0, sym same ∙ begins.1)
    by false e =
        let held = guard_held (nat_lt (length names) 1025) (names ++ (name, tt) ∷ []) next e in
        (begins.0 ++ (name, tt) ∷ [], sym held.1 ∙ ap (λ ns. ns ++ (name, tt) ∷ []) begins.1)

under-begins : (parents next : TypeParents) (name parent : List ℕ) → (more : TypeParents) × (parents ≡ (object_word, object_word) ∷ more) →
    (known : Option (List ℕ)) → under known parents name parent ≡ Some next → (more : TypeParents) × (next ≡ (object_word, object_word) ∷ more)
unfolding under
under-begins parents next name parent begins None h =
    let same : parents ++ (name, parent) ∷ [] ≡ next = cc in
    (begins.0 ++ (name, parent) ∷ [], sym same ∙ ap (λ ps. ps ++ (name, parent) ∷ []) begins.1)
under-begins parents next name parent begins (Some known) h =
    let held = guard_held (bytes_eq known parent) parents next h in
    (begins.0, sym held.1 ∙ begins.1)

-- what two tables that are put together are
pub put_together : (names : Option TypeNames) (parents : Option TypeParents) (tables : TypeTables) → tables_of names parents ≡ Some tables →
    (names ≡ Some tables.names) × (parents ≡ Some tables.parents)
unfolding tables_of
put_together None parents tables h = cc
put_together (Some names) None tables h = cc
put_together (Some names) (Some parents) tables h =
    let same : record { names = names; parents = parents } ≡ tables = cc in
    (ap (λ (t : TypeTables). Some t.names) same, ap (λ (t : TypeTables). Some t.parents) same)

declared_under-begins : (parents next : TypeParents) (name parent : List ℕ) → (more : TypeParents) × (parents ≡ (object_word, object_word) ∷ more) →
    (counts : Bool) → (if counts then under (value_named parents name) parents name parent else Some parents) ≡ Some next →
    (more : TypeParents) × (next ≡ (object_word, object_word) ∷ more)
declared_under-begins parents next name parent begins true h = under-begins parents next name parent begins _ h
declared_under-begins parents next name parent begins false h = let same : parents ≡ next = cc in (begins.0, sym same ∙ begins.1)

type-begins : (dialect : Dialect) (parent : List ℕ) (tables : TypeTables) (word : List ℕ) (next : TypeTables) → HasObject tables → type_declared dialect parent tables word ≡ Some next → HasObject next
unfolding type_declared declared_under
type-begins dialect parent tables word next begins h =
    let parts = put_together (numbered tables.names (folded word)) (declared_under dialect tables.parents (folded word) (folded parent)) next h in
    record {
      names = numbered-begins tables.names next.names (folded word) begins.names parts.0;
      parents = declared_under-begins tables.parents next.parents (folded word) (folded parent) begins.parents _ parts.1;
    }

group-begins : (dialect : Dialect) (tables : TypeTables) (group : NameGroup) (next : TypeTables) → HasObject tables → group_declared dialect tables group ≡ Some next → HasObject next
unfolding group_declared parent_numbered
group-begins dialect tables group next begins h =
    by (through (type_declared dialect group.type) tables group.names) (λ t e. through_keeps HasObject (type_declared dialect group.type) (type-begins dialect group.type) tables group.names t begins e) h
  where
    by : (between : Option TypeTables) → ((t : TypeTables) → between ≡ Some t → HasObject t) → parent_numbered group.type between ≡ Some next → HasObject next
    by None kept e = cc
    by (Some t) kept e =
        let had = kept t refl in
        let parts = put_together (numbered t.names (folded group.type)) (Some t.parents) next e in
        let same : t.parents ≡ next.parents = let q = parts.1 in cc in
        record {
          names = numbered-begins t.names next.names (folded group.type) had.names parts.0;
          parents = subst (λ ps. (more : TypeParents) × (ps ≡ (object_word, object_word) ∷ more)) same had.parents;
        }

declared-begins : (dialect : Dialect) (groups : List NameGroup) (tables : TypeTables) → types_declared dialect groups ≡ Some tables → HasObject tables
unfolding types_declared
declared-begins dialect groups tables h =
    through_keeps HasObject (group_declared dialect) (group-begins dialect) object_alone groups tables (record { names = ([], refl); parents = ([], refl) }) h

-- what stands behind a list of steps stood before it, where each step that no item passes a test in brings it from before
through_back : {S X : Type 0} (P : S → Type 0) (any : X → Bool) (step : S → X → Option S) →
    ((s : S) (x : X) (t : S) → any x ≡ false → step s x ≡ Some t → P t → P s) → (s : S) (xs : List X) (t : S) → list_any any xs ≡ false → through step s xs ≡ Some t → P t → P s
unfolding through
through_back P any step back s [] t miss h had = let e : s ≡ t = cc in subst P (sym e) had
through_back {S} {X} P any step back s (x ∷ xs) t miss h had =
    let parts = or_parts (any x) (list_any any xs) miss in
    by (step s x) (λ u e. back s x u parts.0 e) (λ u k. through_back P any step back u xs t parts.1 k had) h
  where
    by : (next : Option S) → ((u : S) → next ≡ Some u → P u → P s) → ((u : S) → through step u xs ≡ Some t → P u) →
        option_and_then (λ state. through step state xs) next ≡ Some t → P s
    by None first rest e = cc
    by (Some u) first rest e = first u refl (rest u e)

none_any : {X : Type 0} (xs : List X) → list_any (λ _. false) xs ≡ false
none_any [] = refl
none_any (x ∷ xs) = none_any xs

module _ (name : List ℕ) (test : List ℕ → Bool) (passes : (word : List ℕ) → folded word ≡ name → test word ≡ true) where
  -- the name is declared
  abbrev IsDeclared : TypeTables → Type 0
  IsDeclared tables = is_some (number_named tables.parents name) ≡ true

  under_before : (parents next : TypeParents) (word parent : List ℕ) → test word ≡ false → (known : Option (List ℕ)) →
      under known parents (folded word) parent ≡ Some next → is_some (number_named next name) ≡ true → is_some (number_named parents name) ≡ true
  unfolding under number_named
  under_before parents next word parent miss None h had =
      let same : parents ++ (folded word, parent) ∷ [] ≡ next = cc in
      by (named-push name (folded word) parent 0 parents (subst (λ ps. is_some (number_named ps name) ≡ true) (sym same) had))
    where
      by : (is_some (number_named parents name) ≡ true) ⊎ (name ≡ folded word) → is_some (number_named parents name) ≡ true
      by (inl there) = there
      by (inr is) = absurd (true≢false (sym (passes word (sym is)) ∙ miss))
  under_before parents next word parent miss (Some known) h had =
      let held = guard_held (bytes_eq known parent) parents next h in
      subst (λ ps. is_some (number_named ps name) ≡ true) (sym held.1) had

  declared_before : (parents next : TypeParents) (word parent : List ℕ) → test word ≡ false → (counts : Bool) →
      (if counts then under (value_named parents (folded word)) parents (folded word) parent else Some parents) ≡ Some next →
      is_some (number_named next name) ≡ true → is_some (number_named parents name) ≡ true
  declared_before parents next word parent miss true h had = under_before parents next word parent miss _ h had
  declared_before parents next word parent miss false h had =
      let same : parents ≡ next = cc in
      subst (λ ps. is_some (number_named ps name) ≡ true) (sym same) had

  -- a declaration that does not count declares nothing
  idle_before : (dialect : Dialect) (parent : List ℕ) (tables : TypeTables) (word : List ℕ) (next : TypeTables) → counts_as_parent dialect (folded parent) ≡ false →
      type_declared dialect parent tables word ≡ Some next → IsDeclared next → IsDeclared tables
  unfolding type_declared declared_under
  idle_before dialect parent tables word next idle h had =
      let parts = put_together (numbered tables.names (folded word)) (declared_under dialect tables.parents (folded word) (folded parent)) next h in
      let same : tables.parents ≡ next.parents =
      (let kept : Some tables.parents ≡ Some next.parents = sym (ap (λ b. if b then under (value_named tables.parents (folded word)) tables.parents (folded word) (folded parent) else Some tables.parents) idle) ∙ parts.1 in cc) in
      subst (λ ps. is_some (number_named ps name) ≡ true) (sym same) had

  type_before : (dialect : Dialect) (parent : List ℕ) (tables : TypeTables) (word : List ℕ) (next : TypeTables) → test word ≡ false → type_declared dialect parent tables word ≡ Some next →
      IsDeclared next → IsDeclared tables
  unfolding type_declared declared_under
  type_before dialect parent tables word next miss h had =
      let parts = put_together (numbered tables.names (folded word)) (declared_under dialect tables.parents (folded word) (folded parent)) next h in
      declared_before tables.parents next.parents word (folded parent) miss _ parts.1 had

  group_before : (dialect : Dialect) (tables : TypeTables) (group : NameGroup) (next : TypeTables) →
      (counts_as_parent dialect (folded group.type) && list_any test group.names) ≡ false → group_declared dialect tables group ≡ Some next →
      IsDeclared next → IsDeclared tables
  unfolding group_declared parent_numbered
  group_before dialect tables group next miss h had =
      by (through (type_declared dialect group.type) tables group.names) (before (counts_as_parent dialect (folded group.type)) refl) h
    where
      before : (counts : Bool) → counts_as_parent dialect (folded group.type) ≡ counts → (t : TypeTables) →
          through (type_declared dialect group.type) tables group.names ≡ Some t → IsDeclared t → IsDeclared tables
      before true is t e =
          through_back IsDeclared test (type_declared dialect group.type) (type_before dialect group.type) tables group.names t
          (sym (ap (λ b. b && list_any test group.names) is) ∙ miss) e
      before false is t e =
          through_back IsDeclared (λ _. false) (type_declared dialect group.type) (λ s x u _. idle_before dialect group.type s x u is) tables group.names t
          (none_any group.names) e

      by : (between : Option TypeTables) → ((t : TypeTables) → between ≡ Some t → IsDeclared t → IsDeclared tables) → parent_numbered group.type between ≡ Some next →
          IsDeclared tables
      by None before e = cc
      by (Some t) before e =
          let parts = put_together (numbered t.names (folded group.type)) (Some t.parents) next e in
          let same : t.parents ≡ next.parents = let q = parts.1 in cc in
          before t refl (subst (λ ps. is_some (number_named ps name) ≡ true) (sym same) had)

-- a declared name is `object`, or a word of the groups
declared_object : (name : List ℕ) → is_some (number_named object_alone.parents name) ≡ true → name ≡ object_word
unfolding number_named
declared_object name h = by (bytes_eq name object_word) refl h
  where
    by : (test : Bool) → bytes_eq name object_word ≡ test → is_some {T = ℕ} (cond (bytes_eq name object_word) (Some 0) None) ≡ true → name ≡ object_word
    by true e k = (bytes_eq-Decides name object_word).0 e
    by false e k = absurd (true≢false (sym k ∙ ap (λ b. is_some {T = ℕ} (cond b (Some 0) None)) e))

pub parents_counted : (tables : TypeTables) → length (parents_of tables) ≡ length tables.names
unfolding parents_of
parents_counted tables = length-map tables.names (λ (entry : List ℕ × Unit {0}). parent_number tables entry.0)

module _ (tables : TypeTables) (begins : HasObject tables) where
  counted : length (parents_of tables) ≡ length tables.names
  unfolding parents_of
  counted = length-map tables.names (λ (entry : List ℕ × Unit {0}). parent_number tables entry.0)

  some_types : 0 < length (parents_of tables)
  some_types = omega (arith, counted, ap length begins.names.1)

  object_numbered : number_named tables.names object_word ≡ Some 0
  unfolding number_named
  object_numbered = ap (λ ns. number_named ns object_word) begins.names.1

  parent_of_object : parent_number tables object_word ≡ 0
  unfolding parent_number parent_name number_named value_named value_at
  parent_of_object =
      let name : parent_name tables.parents object_word ≡ object_word = ap (λ ps. parent_name ps object_word) begins.parents.1 in
      ap (λ n. unwrap_or (number_named tables.names n) 0) name ∙ ap (λ o. unwrap_or o 0) object_numbered

  -- the parent of a type is that of its name
  parent_at : (d other : ℕ) (key : List ℕ) (v : Unit {0}) → slice_get tables.names d ≡ Some (key, v) → get_or (parents_of tables) d other ≡ parent_number tables key
  unfolding parents_of
  parent_at d other key v e =
      get_or_from_slice_get (parents_of tables) d (parent_number tables key) other
      (slice_get-map (λ (entry : List ℕ × Unit {0}). parent_number tables entry.0) tables.names d ∙ ap (option_map (λ (entry : List ℕ × Unit {0}). parent_number tables entry.0)) e)

  on_top : slice_index (parents_of tables) 0 ≡ 0
  on_top = parent_at 0 0 object_word tt (ap (λ ns. slice_get ns 0) begins.names.1) ∙ parent_of_object

  -- the parent of a type is 0, or has the name that the type is declared under
  parent_cases : (name : List ℕ) → (parent_number tables name ≡ 0) ⊎ (number_named tables.names (parent_name tables.parents name) ≡ Some (parent_number tables name))
  unfolding parent_number
  parent_cases name = by (number_named tables.names (parent_name tables.parents name)) refl
    where
      by : (found : Option ℕ) → number_named tables.names (parent_name tables.parents name) ≡ found →
          (unwrap_or (number_named tables.names (parent_name tables.parents name)) 0 ≡ 0)
          ⊎ (number_named tables.names (parent_name tables.parents name) ≡ Some (unwrap_or (number_named tables.names (parent_name tables.parents name)) 0))
      by None e = inl (ap (λ o. unwrap_or o 0) e)
      by (Some n) e = inr (e ∙ ap (λ o. Some (unwrap_or o 0)) (sym e))

  parent_known : All (λ parent. parent < length (parents_of tables)) (parents_of tables)
  parent_known d other lt =
      let item = item_within tables.names d (omega (arith, counted)) in
      let is = parent_at d other item.0.0 item.0.1 item.1 in
      subst (λ p. p < length (parents_of tables)) (sym is) (by item.0.0 (parent_cases item.0.0))
    where
      by : (name : List ℕ) → (parent_number tables name ≡ 0) ⊎ (number_named tables.names (parent_name tables.parents name) ≡ Some (parent_number tables name)) →
          parent_number tables name < length (parents_of tables)
      by name (inl none) = omega (arith, none, some_types)
      by name (inr found) =
          let entry = entry_at tables.names (parent_name tables.parents name) (parent_number tables name) found in
          let within = slice_get_within tables.names (parent_number tables name) _ entry.1 in
          omega (arith, within, counted)

  -- the name by which the parent of a type is found is declared, or the parent is `object`
  object_or_declared : (name : List ℕ) (number : ℕ) → number_named tables.names name ≡ Some number →
      (slice_index (parents_of tables) number ≡ 0) ⊎ (is_some (number_named tables.parents name) ≡ true)
  unfolding parent_number
  object_or_declared name number e = by (number_named tables.parents name) refl
    where
      by : (found : Option ℕ) → number_named tables.parents name ≡ found → (slice_index (parents_of tables) number ≡ 0) ⊎ (is_some (number_named tables.parents name) ≡ true)
      by (Some k) is = inr (ap is_some is)
      by None is =
          let entry = entry_at tables.names name number e in
          inl (parent_at number 0 name entry.0 entry.1
          ∙ ap (λ n. unwrap_or (number_named tables.names n) 0) (parent_unnamed tables.parents name is) ∙ ap (λ o. unwrap_or o 0) object_numbered)

  -- above `object` there is no other type
  above_object : (type : ℕ) → type ≢ 0 → is_within (parents_of tables) (length (parents_of tables)) 0 type ≡ false
  above_object type other = by (is_within (parents_of tables) (length (parents_of tables)) 0 type) refl
    where
      by : (test : Bool) → is_within (parents_of tables) (length (parents_of tables)) 0 type ≡ test → is_within (parents_of tables) (length (parents_of tables)) 0 type ≡ false
      by false e = e
      by true e =
          let above = below_from_within (parents_of tables) (length (parents_of tables)) 0 type e in
          absurd (other (sym above.1 ∙ ancestor-object (parents_of tables) some_types on_top (λ i lt. parent_known i 0 lt) above.0))

-- a word that names a type under itself
word_in_cycle : (tables : TypeTables) (word : List ℕ) (type : ℕ) → number_named tables.names (folded word) ≡ Some type → 0 < type →
    is_within (parents_of tables) (length (parents_of tables)) (slice_index (parents_of tables) type) type ≡ true → names_cycle tables.names (parents_of tables) word ≡ true
unfolding names_cycle numbers_cycle is_under_itself is_below
word_in_cycle tables word type named positive within = rw (named, lt-ltb 0 type positive, within) refl

-- a parent that is not `object` does not stand under itself, where no word of the groups names a type that does
parent_free : (dialect : Dialect) (groups : List NameGroup) (tables : TypeTables) → types_declared dialect groups ≡ Some tables →
    list_any (declares_cycle dialect tables.names (parents_of tables)) groups ≡ false → (name : List ℕ) (type : ℕ) → number_named tables.names name ≡ Some type → type ≢ 0 →
    is_within (parents_of tables) (length (parents_of tables)) (slice_index (parents_of tables) type) type ≡ false
unfolding types_declared declares_cycle
parent_free dialect groups tables declared miss name type named other =
    by (is_within (parents_of tables) (length (parents_of tables)) (slice_index (parents_of tables) type) type) refl (object_or_declared tables begins name type named)
  where
    begins : HasObject tables
    begins = declared-begins dialect groups tables declared

    by : (test : Bool) → is_within (parents_of tables) (length (parents_of tables)) (slice_index (parents_of tables) type) type ≡ test →
        (slice_index (parents_of tables) type ≡ 0) ⊎ (is_some (number_named tables.parents name) ≡ true) →
        is_within (parents_of tables) (length (parents_of tables)) (slice_index (parents_of tables) type) type ≡ false
    by false e cases = e
    by true e (inl top) =
        ap (λ t. is_within (parents_of tables) (length (parents_of tables)) t type) top ∙ above_object tables begins type other
    by true e (inr there) =
        let passes : (word : List ℕ) → folded word ≡ name → names_cycle tables.names (parents_of tables) word ≡ true =
        λ word same. word_in_cycle tables word type (ap (number_named tables.names) same ∙ named) (omega (arith, other)) e in
        let first = through_back (IsDeclared name (names_cycle tables.names (parents_of tables)) passes) (declares_cycle dialect tables.names (parents_of tables)) (group_declared dialect)
        (group_before name (names_cycle tables.names (parents_of tables)) passes dialect) object_alone groups tables miss declared there in
        let same : name ≡ object_word = declared_object name first in
        let zero_type : Some type ≡ Some 0 = sym named ∙ ap (number_named tables.names) same ∙ object_numbered tables begins in
        absurd (other (let z : type ≡ 0 = cc in z))

-- where no word of the groups names a type under itself, the parents form a tree
pub cycle_free : (dialect : Dialect) (groups : List NameGroup) (tables : TypeTables) → types_declared dialect groups ≡ Some tables →
    list_any (declares_cycle dialect tables.names (parents_of tables)) groups ≡ false → guard (is_tree (parents_of tables)) (Some (parents_of tables)) ≡ Some (parents_of tables)
unfolding guard
cycle_free dialect groups tables declared miss = rw tree refl
  where
    begins : HasObject tables
    begins = declared-begins dialect groups tables declared

    free : (d : ℕ) → d < length (parents_of tables) → slice_index (parents_of tables) d ≢ 0 →
        is_within (parents_of tables) (length (parents_of tables)) (slice_index (parents_of tables) (slice_index (parents_of tables) d)) (slice_index (parents_of tables) d) ≡ false
    free d lt other =
        let item = item_within tables.names d (omega (arith, counted tables begins)) in
        let is : slice_index (parents_of tables) d ≡ parent_number tables item.0.0 = parent_at tables begins d 0 item.0.0 item.0.1 item.1 in
        by item.0.0 is (parent_cases tables begins item.0.0)
      where
        by : (key : List ℕ) → slice_index (parents_of tables) d ≡ parent_number tables key →
            (parent_number tables key ≡ 0) ⊎ (number_named tables.names (parent_name tables.parents key) ≡ Some (parent_number tables key)) →
            is_within (parents_of tables) (length (parents_of tables)) (slice_index (parents_of tables) (slice_index (parents_of tables) d)) (slice_index (parents_of tables) d) ≡ false
        by key is (inl top) = absurd (other (is ∙ top))
        by key is (inr named) =
            parent_free dialect groups tables declared miss (parent_name tables.parents key) (slice_index (parents_of tables) d) (named ∙ ap Some (sym is)) other

    tree : is_tree (parents_of tables) ≡ true
    tree = tree_without_cycles (parents_of tables) (some_types tables begins) (on_top tables begins) (parent_known tables begins) free

-- in a tree no type stands under itself
acyclic : (parents : List ℕ) → IsTypeTree parents → (type : ℕ) → type < length parents → is_under_itself parents type ≡ false
unfolding is_under_itself is_below ancestor
acyclic parents tree type lt = by (nat_lt 0 type && is_within parents (length parents) (slice_index parents type) type) refl
  where
    by : (test : Bool) → (nat_lt 0 type && is_within parents (length parents) (slice_index parents type) type) ≡ test →
        (nat_lt 0 type && is_within parents (length parents) (slice_index parents type) type) ≡ false
    by false e = e
    by true e =
        let parts = and_parts (nat_lt 0 type) (is_within parents (length parents) (slice_index parents type) type) e in
        let above = below_from_within parents (length parents) (slice_index parents type) type parts.1 in
        let top : type ≡ 0 = no_cycle parents tree type above.0 lt above.1 in
        let positive : 0 < type = ltb-true 0 type parts.0 in
        absurd (omega (arith, top, positive))

none_passes : {X : Type 0} (any : X → Bool) → ((x : X) → any x ≡ false) → (xs : List X) → list_any any xs ≡ false
none_passes any fails [] = refl
none_passes any fails (x ∷ xs) = or_from (any x) (list_any any xs) (fails x) (none_passes any fails xs)

and_no_second : (first second : Bool) → second ≡ false → (first && second) ≡ false
and_no_second true second none = none
and_no_second false second none = refl

-- so in a tree no word names a type under itself
no_word_in_tree : (tables : TypeTables) → IsTypeTree (parents_of tables) → (word : List ℕ) → names_cycle tables.names (parents_of tables) word ≡ false
unfolding names_cycle numbers_cycle
no_word_in_tree tables tree word = by (number_named tables.names (folded word)) refl
  where
    by : (found : Option ℕ) → number_named tables.names (folded word) ≡ found → numbers_cycle (parents_of tables) (number_named tables.names (folded word)) ≡ false
    by None e = ap (numbers_cycle (parents_of tables)) e
    by (Some type) e =
        let entry = entry_at tables.names (folded word) type e in
        let within = slice_get_within tables.names type _ entry.1 in
        ap (numbers_cycle (parents_of tables)) e ∙ acyclic (parents_of tables) tree type (omega (arith, within, parents_counted tables))

-- where a word of the groups names a type under itself, the parents form no tree
pub cycle_refused : (dialect : Dialect) (groups : List NameGroup) (tables : TypeTables) → list_any (declares_cycle dialect tables.names (parents_of tables)) groups ≡ true →
    guard (is_tree (parents_of tables)) (Some (parents_of tables)) ≡ None
unfolding guard declares_cycle
cycle_refused dialect groups tables found = by (is_tree (parents_of tables)) refl
  where
    by : (test : Bool) → is_tree (parents_of tables) ≡ test → guard test (Some (parents_of tables)) ≡ None
    by false e = refl
    by true e =
        let free = none_passes (declares_cycle dialect tables.names (parents_of tables))
        (λ g. and_no_second (counts_as_parent dialect (folded g.type)) _
        (none_passes (names_cycle tables.names (parents_of tables)) (no_word_in_tree tables (tree_from (parents_of tables) e)) g.names)) groups in
        absurd (true≢false (sym found ∙ free))

-- each parent is a type
pub parents_known : (dialect : Dialect) (groups : List NameGroup) (tables : TypeTables) → types_declared dialect groups ≡ Some tables → All (λ parent. parent < length (parents_of tables)) (parents_of tables)
parents_known dialect groups tables declared = parent_known tables (declared-begins dialect groups tables declared)

pub ruleset order_steps = (parents_counted, cycle_free, cycle_refused, parents_known)
