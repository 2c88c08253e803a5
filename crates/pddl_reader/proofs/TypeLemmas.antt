-- Types declared and ordered, one equation for each case.

use Rattle.std.proofs.Common.{◌≡◌, ℕ, ◌+◌, ◌<◌, ◌≤◌, ◌++◌, Bool, true, false, ◌||◌, nat_lt, is_some, List, [], ◌∷◌, length, map, drop, Option, Some, None, if◌then◌else◌, refl, ◌∙◌, arith, length-append, append_assoc, add-one, suc, zero}
use Rattle.std.proofs.lemmas.List.{drop_all, append-nil}
use Rattle.std.proofs.lemmas.Bool.{le-ltb, lt-ltb, ltb-true}
use Rattle.std.specs.List.{slice_get, list_any}
use Rattle.std.specs.Str.{bytes_eq}
use Rattle.pddl_words.specs.Words.{folded}
use Rattle.strips_task.specs.Names.{number_named}
use Rattle.pddl_syntax.specs.declared.syntax.NameGroup as groups
use Rattle.pddl_syntax.specs.declared.walk.NameWord.{NameWord}
use Rattle.pddl_reader.specs.declared.resolution.types.KnownTypes.{KnownTypes}
use Rattle.pddl_reader.specs.declared.resolution.types.TypeTables.{TypeTables}
use Rattle.pddl_syntax.specs.Forms.{name_forms, name_group_form, name_groups}
use Rattle.pddl_syntax.specs.declared.dialect.Dialect.{Dialect}
use Rattle.pddl_syntax.specs.Keywords.{object_word}
use Rattle.pddl_syntax.specs.Optional.{guard, through}
use Rattle.pddl_syntax.specs.Syntax.{NameGroup}
use Rattle.pddl_reader.specs.TypeOrder.{TypeNames, TypeParents, numbered, under, counts_as_parent, declared_under, tables_of, type_declared, parent_numbered, group_declared, object_alone, types_declared, parent_name, parent_number, parents_of, is_tree, ordered, types_of}
use Rattle.pddl_reader.specs.TypeCycles.{is_under_itself, numbers_cycle, names_cycle, declares_cycle}
use Rattle.pddl_reader.proofs.Items.{item_steps}
use Rattle.pddl_reader.proofs.TableLemmas.{value_unnamed, value_numbered}
use Rattle.pddl_syntax.proofs.Guards.{guard_held}
use Rattle.pddl_reader.proofs.Through.{through_keeps}

pub number_again : (names : TypeNames) (name : List ℕ) → is_some (number_named names name) ≡ true → numbered names name ≡ Some names
unfolding numbered
number_again names name h = rw h refl

pub number_many : (names : TypeNames) (name : List ℕ) → is_some (number_named names name) ≡ false → 1025 ≤ length names → numbered names name ≡ None
unfolding numbered guard
number_many names name h le = rw (h, le-ltb (length names) 1025 le) refl

pub number_new : (names : TypeNames) (name : List ℕ) → is_some (number_named names name) ≡ false → length names < 1025 →
    numbered names name ≡ Some (names ++ (name, tt) ∷ [])
unfolding numbered guard
number_new names name h lt = rw (h, lt-ltb (length names) 1025 lt) refl

pub not_numbered : (names : TypeNames) (name : List ℕ) → is_some (number_named names name) ≡ false → number_named names name ≡ None
not_numbered names name h = by (number_named names name) h
  where
    by : (found : Option ℕ) → is_some found ≡ false → found ≡ None
    by None e = refl
    by (Some n) e = cc

pub ruleset number_steps = (number_again, number_many, number_new, not_numbered)

pub under_idle : (dialect : Dialect) (parents : TypeParents) (name parent : List ℕ) → counts_as_parent dialect parent ≡ false →
    declared_under dialect parents name parent ≡ Some parents
unfolding declared_under
under_idle dialect parents name parent idle = rw idle refl

pub under_again : (dialect : Dialect) (parents : TypeParents) (name parent key known : List ℕ) (number : ℕ) → counts_as_parent dialect parent ≡ true →
    number_named parents name ≡ Some number → slice_get parents number ≡ Some (key, known) → bytes_eq known parent ≡ true →
    declared_under dialect parents name parent ≡ Some parents
unfolding declared_under under guard
under_again dialect parents name parent key known number counts h e is = rw (counts, value_numbered parents name key number known h e, is) refl

pub under_otherwise : (dialect : Dialect) (parents : TypeParents) (name parent key known : List ℕ) (number : ℕ) → counts_as_parent dialect parent ≡ true →
    number_named parents name ≡ Some number → slice_get parents number ≡ Some (key, known) → bytes_eq known parent ≡ false →
    declared_under dialect parents name parent ≡ None
unfolding declared_under under guard
under_otherwise dialect parents name parent key known number counts h e is = rw (counts, value_numbered parents name key number known h e, is) refl

pub under_new : (dialect : Dialect) (parents : TypeParents) (name parent : List ℕ) → counts_as_parent dialect parent ≡ true → number_named parents name ≡ None →
    declared_under dialect parents name parent ≡ Some (parents ++ (name, parent) ∷ [])
unfolding declared_under under
under_new dialect parents name parent counts h = rw (counts, value_unnamed parents name h) refl

pub ruleset under_steps = (under_idle, under_again, under_otherwise, under_new)

pub type_unordered : (dialect : Dialect) (parent : List ℕ) (tables : TypeTables) (word : List ℕ) → declared_under dialect tables.parents (folded word) (folded parent) ≡ None →
    type_declared dialect parent tables word ≡ None
unfolding type_declared tables_of
type_unordered dialect parent tables word h = by (numbered tables.names (folded word))
  where
    by : (names : Option TypeNames) → tables_of names (declared_under dialect tables.parents (folded word) (folded parent)) ≡ None
    by None = refl
    by (Some names) = rw h refl

pub type_unnumbered : (dialect : Dialect) (parent : List ℕ) (tables : TypeTables) (word : List ℕ) → numbered tables.names (folded word) ≡ None → type_declared dialect parent tables word ≡ None
unfolding type_declared tables_of
type_unnumbered dialect parent tables word h = rw h refl

pub type_both : (dialect : Dialect) (parent : List ℕ) (tables : TypeTables) (word : List ℕ) (names : TypeNames) (parents : TypeParents) →
    numbered tables.names (folded word) ≡ Some names → declared_under dialect tables.parents (folded word) (folded parent) ≡ Some parents →
    type_declared dialect parent tables word ≡ Some (record { names = names; parents = parents })
unfolding type_declared tables_of
type_both dialect parent tables word names parents h e = rw (h, e) refl

pub ruleset type_steps = (type_unordered, type_unnumbered, type_both)

pub group_undeclared : (dialect : Dialect) (tables : TypeTables) (g : groups.NameGroup) → through (type_declared dialect g.kind.text.now) tables (name_forms g.names.items) ≡ None →
    group_declared dialect tables (name_group_form g) ≡ None
unfolding group_declared parent_numbered
group_undeclared dialect tables g h = rw h refl

pub group_unnumbered : (dialect : Dialect) (tables between : TypeTables) (g : groups.NameGroup) →
    through (type_declared dialect g.kind.text.now) tables (name_forms g.names.items) ≡ Some between → numbered between.names (folded g.kind.text.now) ≡ None →
    group_declared dialect tables (name_group_form g) ≡ None
unfolding group_declared parent_numbered tables_of
group_unnumbered dialect tables between g h e = rw (h, e) refl

pub group_both : (dialect : Dialect) (tables between : TypeTables) (g : groups.NameGroup) (names : TypeNames) →
    through (type_declared dialect g.kind.text.now) tables (name_forms g.names.items) ≡ Some between → numbered between.names (folded g.kind.text.now) ≡ Some names →
    group_declared dialect tables (name_group_form g) ≡ Some (record { names = names; parents = between.parents })
unfolding group_declared parent_numbered tables_of
group_both dialect tables between g names h e = rw (h, e) refl

pub ruleset group_steps = (group_undeclared, group_unnumbered, group_both)

pub parent_unnamed : (parents : TypeParents) (name : List ℕ) → number_named parents name ≡ None → parent_name parents name ≡ object_word
unfolding parent_name
parent_unnamed parents name h = rw (value_unnamed parents name h) refl

pub parent_named : (parents : TypeParents) (name key parent : List ℕ) (number : ℕ) → number_named parents name ≡ Some number →
    slice_get parents number ≡ Some (key, parent) → parent_name parents name ≡ parent
unfolding parent_name
parent_named parents name key parent number h e = rw (value_numbered parents name key number parent h e) refl

pub ruleset parent_steps = (parent_unnamed, parent_named)

pub parent_unknown : (tables : TypeTables) (name : List ℕ) → number_named tables.names (parent_name tables.parents name) ≡ None → parent_number tables name ≡ 0
unfolding parent_number
parent_unknown tables name h = rw h refl

pub parent_known : (tables : TypeTables) (name : List ℕ) (number : ℕ) → number_named tables.names (parent_name tables.parents name) ≡ Some number →
    parent_number tables name ≡ number
unfolding parent_number
parent_known tables name number h = rw h refl

pub ruleset parent_number_steps = (parent_unknown, parent_known)

pub declared_all : (dialect : Dialect) (groups : List NameGroup) → types_declared dialect groups ≡ through (group_declared dialect) object_alone groups
unfolding types_declared
declared_all dialect groups = refl

-- there are types, and no more than the limit
pub record AreFew (tables : TypeTables) : Type 0 where
  pub some : 0 < length tables.names
  pub few : length tables.names ≤ 1025

numbered-few : (names more : TypeNames) (name : List ℕ) → 0 < length names → length names ≤ 1025 → numbered names name ≡ Some more →
    (0 < length more) × (length more ≤ 1025)
unfolding numbered
numbered-few names more name some few h = by (is_some (number_named names name)) h
  where
    by : (test : Bool) → (if test then Some names else guard (nat_lt (length names) 1025) (Some (names ++ (name, tt) ∷ []))) ≡ Some more → (0 < length more) × (length more ≤ 1025)
    by true e = let same : names ≡ more = cc in rw (← same) (some, few)
    by false e =
        let held = guard_held (nat_lt (length names) 1025) (names ++ (name, tt) ∷ []) more e in
        let lt : length names < 1025 = ltb-true (length names) 1025 held.0 in
        rw (← held.1, length-append) (omega arith, omega arith)

tables-few : (names : Option TypeNames) (parents : Option TypeParents) (more : TypeTables) → ((ns : TypeNames) → names ≡ Some ns → (0 < length ns) × (length ns ≤ 1025)) →
    tables_of names parents ≡ Some more → AreFew more
unfolding tables_of
tables-few None parents more few h = cc
tables-few (Some ns) None more few h = cc
tables-few (Some ns) (Some ps) more few h =
    let same : record { names = ns; parents = ps } ≡ more = cc in
    rw (← same) (record { some = (few ns refl).0; few = (few ns refl).1 })

type-few : (dialect : Dialect) (parent : List ℕ) (tables : TypeTables) (word : List ℕ) (more : TypeTables) → AreFew tables → type_declared dialect parent tables word ≡ Some more → AreFew more
unfolding type_declared
type-few dialect parent tables word more few h =
    tables-few (numbered tables.names (folded word)) (declared_under dialect tables.parents (folded word) (folded parent)) more
    (λ ns e. numbered-few tables.names ns (folded word) few.some few.few e) h

group-few : (dialect : Dialect) (tables : TypeTables) (group : NameGroup) (more : TypeTables) → AreFew tables → group_declared dialect tables group ≡ Some more → AreFew more
unfolding group_declared parent_numbered
group-few dialect tables group more few h =
    by (through (type_declared dialect group.type) tables group.names) (λ t e. through_keeps AreFew (type_declared dialect group.type) (type-few dialect group.type) tables group.names t few e) h
  where
    by : (next : Option TypeTables) → ((t : TypeTables) → next ≡ Some t → AreFew t) → parent_numbered group.type next ≡ Some more → AreFew more
    by None kept e = cc
    by (Some t) kept e =
        let few_t = kept t refl in
        tables-few (numbered t.names (folded group.type)) (Some t.parents) more (λ ns k. numbered-few t.names ns (folded group.type) few_t.some few_t.few k) e

pub declared-few : (dialect : Dialect) (groups : List NameGroup) (tables : TypeTables) → types_declared dialect groups ≡ Some tables → AreFew tables
unfolding types_declared
declared-few dialect groups tables h =
    through_keeps AreFew (group_declared dialect) (group-few dialect) object_alone groups tables (record { some = omega arith; few = omega arith }) h

pub few_declared : (dialect : Dialect) (groups : List NameGroup) (tables : TypeTables) → types_declared dialect groups ≡ Some tables → length tables.names ≤ 1025
few_declared dialect groups tables h = (declared-few dialect groups tables h).few

pub ruleset declared_steps = (declared_all, few_declared)

pub parents_start : (tables : TypeTables) → [] ++ map (λ entry. parent_number tables entry.0) (drop 0 tables.names) ≡ parents_of tables
unfolding parents_of
parents_start tables = refl

-- the entry at an index is the first of the rest
entry_at : {A : Type 0} (xs : List A) (i : ℕ) (x : A) → slice_get xs i ≡ Some x → drop i xs ≡ x ∷ drop (i + 1) xs
entry_at {A} xs i x h = rw add-one (by xs i h)
  where
    by : (ys : List A) (k : ℕ) → slice_get ys k ≡ Some x → drop k ys ≡ x ∷ drop (suc k) ys
    by [] k e = cc
    by (y ∷ ys) zero e = let same : y ≡ x = cc in rw same refl
    by (y ∷ ys) (suc k) e = by ys k e

pub parents_item : (tables : TypeTables) (front : List ℕ) (i : ℕ) (key : List ℕ) (value : Unit {0}) → slice_get tables.names i ≡ Some (key, value) →
    front ++ map (λ entry. parent_number tables entry.0) (drop i tables.names)
    ≡ (front ++ parent_number tables key ∷ []) ++ map (λ entry. parent_number tables entry.0) (drop (i + 1) tables.names)
parents_item tables front i key value h = rw (entry_at tables.names i (key, value) h, append_assoc) refl

pub ruleset parents_steps = (parents_start, parents_item, drop_all, append-nil)

pub types_undeclared : (dialect : Dialect) (groups : List NameGroup) → types_declared dialect groups ≡ None → types_of dialect groups ≡ None
unfolding types_of ordered
types_undeclared dialect groups h = rw h refl

pub types_unordered : (dialect : Dialect) (groups : List NameGroup) (tables : TypeTables) → types_declared dialect groups ≡ Some tables →
    guard (is_tree (parents_of tables)) (Some (parents_of tables)) ≡ None → types_of dialect groups ≡ None
unfolding types_of ordered guard
types_unordered dialect groups tables h e = rw h (by (is_tree (parents_of tables)) e)
  where
    by : (test : Bool) → guard test (Some (parents_of tables)) ≡ None →
        guard {A = KnownTypes} test (Some (record { names = tables.names; parents = parents_of tables })) ≡ None
    by true k = cc
    by false k = refl

pub types_ordered : (dialect : Dialect) (groups : List NameGroup) (tables : TypeTables) (order : List ℕ) → types_declared dialect groups ≡ Some tables →
    guard (is_tree (parents_of tables)) (Some (parents_of tables)) ≡ Some order → types_of dialect groups ≡ Some (record { names = tables.names; parents = order })
unfolding types_of ordered guard
types_ordered dialect groups tables order h e =
    let held = guard_held (is_tree (parents_of tables)) (parents_of tables) order e in
    rw (h, held.0, held.1) refl

pub ruleset types_steps = (types_undeclared, types_unordered, types_ordered)

pub cycle_unnamed : (names : TypeNames) (parents word : List ℕ) → number_named names (folded word) ≡ None → names_cycle names parents word ≡ false
unfolding names_cycle numbers_cycle
cycle_unnamed names parents word h = rw h refl

pub cycle_named : (names : TypeNames) (parents word : List ℕ) (number : ℕ) → number_named names (folded word) ≡ Some number →
    names_cycle names parents word ≡ is_under_itself parents number
unfolding names_cycle numbers_cycle
cycle_named names parents word number h = rw h refl

pub ruleset cycle_steps = (cycle_unnamed, cycle_named)

pub any_word : (test : List ℕ → Bool) (w : NameWord) (ws : List NameWord) → list_any test (name_forms (w ∷ ws)) ≡ (test w.text.now || list_any test (name_forms ws))
unfolding name_forms
any_word test w ws = refl

pub no_word : (test : List ℕ → Bool) → list_any test (name_forms []) ≡ false
unfolding name_forms
no_word test = refl

pub ruleset cycle_word_steps = (item_steps, any_word, no_word)

pub group_idle : (dialect : Dialect) (names : TypeNames) (parents : List ℕ) (g : groups.NameGroup) → counts_as_parent dialect (folded g.kind.text.now) ≡ false →
    declares_cycle dialect names parents (name_group_form g) ≡ false
unfolding declares_cycle
group_idle dialect names parents g idle = rw idle refl

pub group_counted : (dialect : Dialect) (names : TypeNames) (parents : List ℕ) (g : groups.NameGroup) → counts_as_parent dialect (folded g.kind.text.now) ≡ true →
    declares_cycle dialect names parents (name_group_form g) ≡ list_any (names_cycle names parents) (name_forms g.names.items)
unfolding declares_cycle
group_counted dialect names parents g counts = rw counts refl

pub ruleset group_cycle_steps = (group_idle, group_counted)

pub any_group : (dialect : Dialect) (names : TypeNames) (parents : List ℕ) (g : groups.NameGroup) (gs : List groups.NameGroup) →
    list_any (declares_cycle dialect names parents) (name_groups (g ∷ gs))
    ≡ (declares_cycle dialect names parents (name_group_form g) || list_any (declares_cycle dialect names parents) (name_groups gs))
unfolding name_groups
any_group dialect names parents g gs = refl

pub no_group : (dialect : Dialect) (names : TypeNames) (parents : List ℕ) → list_any (declares_cycle dialect names parents) (name_groups []) ≡ false
unfolding name_groups
no_group dialect names parents = refl

pub ruleset cycle_group_steps = (item_steps, any_group, no_group)
