-- A table that is declared entry by entry has the entries of all declarations.

use Rattle.std.proofs.Common.{◌≡◌, ◌↔◌, ℕ, ◌+◌, ◌<◌, ◌≤◌, ◌++◌, ◌&&◌, suc, Bool, true, false, not, cond, nat_lt, is_none, is_some, map, List, [], ◌∷◌, length, Option, Some, None, refl, ap, sym, ◌∙◌, subst, arith, append_assoc, append-nil, length-append}
use Rattle.std.proofs.lemmas.Bool.{and_parts, or_parts, ltb-true, not-true}
use Rattle.std.proofs.lemmas.List.{map-append, length-map}
use Rattle.std.proofs.lemmas.Map.Made.{keys_of-map_values}
use Rattle.std.specs.Cmp.Lexicographic.{nat_list_eq_equiv}
use Rattle.std.specs.List.{list_any, position_from}
use Rattle.std.specs.Map.{keys_of}
use Rattle.std.specs.Option.{option_and_then, option_map}
use Rattle.std.specs.Str.{bytes_eq}
use Rattle.pddl_words.specs.Words.{folded}
use Rattle.strips_task.specs.declared.actions.Action.{Action}
use Rattle.strips_task.specs.Names.{number_named, are_distinct}
use Rattle.strips_task.proofs.NameNumbers.{entries_distinct}
use Rattle.pddl_syntax.specs.Optional.{guard, through}
use Rattle.pddl_syntax.specs.Syntax.{PredicateForm, ActionForm}
use Rattle.pddl_reader.specs.Declarations.{Predicates, may_declare, declared}
use Rattle.pddl_reader.specs.Domain.{may_have, declared_predicate, with_predicate, predicates_from, with_function, functions_from, action_meant, no_actions, tables_with, declared_action, with_action_of, actions_from}
use Rattle.pddl_reader.specs.Functions.{Vocabulary}
use Rattle.pddl_reader.specs.Variables.{argument_types_of}
use Rattle.reading_laws.specs.DeclaredTables.{AreDeclared, predicate_entry, function_entry, action_entry, action_tables, ArePredicatesDeclared, AreFunctionsDeclared, AreActionsDeclared}
use Rattle.reading_laws.proofs.ThroughLists.{through_same}
use Rattle.pddl_reader.proofs.TableLemmas.{may_if}
use Rattle.reading_laws.specs.ReadTables.{CostedAction}

-- steps on what states are shown as
through_shown : {S T X : Type 0} (show : S → T) (f : S → X → Option S) (g : T → X → Option T) → ((s : S) (x : X) → g (show s) x ≡ option_map show (f s x)) →
    (s : S) (xs : List X) → through g (show s) xs ≡ option_map show (through f s xs)
unfolding through
through_shown show f g same s [] = refl
through_shown {S} {T} {X} show f g same s (x ∷ xs) =
    ap (option_and_then (λ t. through g t xs)) (same s x) ∙ by (f s x) (λ t. through_shown show f g same t xs)
  where
    by : (next : Option S) → ((t : S) → through g (show t) xs ≡ option_map show (through f t xs)) →
        option_and_then (λ t. through g t xs) (option_map show next) ≡ option_map show (option_and_then (λ t. through f t xs) next)
    by None rest = refl
    by (Some t) rest = rest t

-- a name behind others passes no test that none of them all passes
behind_fails : {V : Type 0} (p : List ℕ → Bool) (before : List (List ℕ × V)) (e : List ℕ × V) (new : List (List ℕ × V)) →
    list_any p (keys_of (before ++ e ∷ new)) ≡ false → p e.0 ≡ false
behind_fails p [] e new h = (or_parts (p e.0) (list_any p (keys_of new)) h).0
behind_fails p (b ∷ bs) e new h = behind_fails p bs e new (or_parts (p b.0) (list_any p (keys_of (bs ++ e ∷ new))) h).1

-- one of distinct names is not among those before it
fresh_from : {V : Type 0} (at : ℕ) (before : List (List ℕ × V)) (e : List ℕ × V) (new : List (List ℕ × V)) → are_distinct (keys_of (before ++ e ∷ new)) ≡ true →
    is_some (position_from (bytes_eq e.0) at (keys_of before)) ≡ false
unfolding are_distinct
fresh_from at [] e new h = refl
fresh_from at (b ∷ bs) e new h =
    let parts = and_parts (not (list_any (bytes_eq b.0) (keys_of (bs ++ e ∷ new)))) (are_distinct (keys_of (bs ++ e ∷ new))) h in
    let other : bytes_eq b.0 e.0 ≡ false = behind_fails (bytes_eq b.0) bs e new (not-true (list_any (bytes_eq b.0) (keys_of (bs ++ e ∷ new))) parts.0) in
    ap (λ t. is_some (cond t (Some at) (position_from (bytes_eq e.0) (at + 1) (keys_of bs)))) (nat_list_eq_equiv.symm e.0 b.0 ∙ other)
    ∙ fresh_from (at + 1) bs e new parts.1

pub fresh : {V : Type 0} (before : List (List ℕ × V)) (e : List ℕ × V) (new : List (List ℕ × V)) → are_distinct (keys_of (before ++ e ∷ new)) ≡ true →
    is_some (number_named before e.0) ≡ false
unfolding number_named
fresh before e new h = fresh_from 0 before e new h

-- what may be declared is new, and there is room for it
may_parts : {V : Type 0} (most : ℕ) (table : List (List ℕ × V)) (name : List ℕ) → may_declare most table name ≡ true →
    (number_named table name ≡ None) × (length table < most)
unfolding may_declare
may_parts most table name h =
    let parts = and_parts (is_none (number_named table name)) (nat_lt (length table) most) h in
    (by (number_named table name) parts.0, ltb-true (length table) most parts.1)
  where
    by : (found : Option ℕ) → is_none found ≡ true → found ≡ None
    by None e = refl
    by (Some n) e = cc

-- a table with an entry, if there is one
declare_entry : {V : Type 0} → ℕ → List (List ℕ × V) → Option (List ℕ × V) → Option (List (List ℕ × V))
declare_entry most table None = None
declare_entry most table (Some e) = declared most table e.0 e.1

module _ {A V : Type 0} (entry : A → Option (List ℕ × V)) (most : ℕ) where
  -- a table with what one more item declares
  declare : List (List ℕ × V) → A → Option (List (List ℕ × V))
  declare table x = declare_entry most table (entry x)

  -- what is added behind other entries
  record IsAdded (before : List (List ℕ × V)) (xs : List A) (table : List (List ℕ × V)) : Type 0 where
    new : List (List ℕ × V)
    behind : table ≡ before ++ new
    entries : map entry xs ≡ map Some new
    distinct : are_distinct (keys_of table) ≡ true
    few : length table ≤ most

  added : (before : List (List ℕ × V)) (xs : List A) (table : List (List ℕ × V)) → are_distinct (keys_of before) ≡ true → length before ≤ most →
      through declare before xs ≡ Some table → IsAdded before xs table
  unfolding through declare declare_entry declared guard
  added before [] table distinct few h =
      let same : before ≡ table = cc in
      record {
        new = [];
        behind = sym same ∙ sym (append-nil before);
        entries = refl;
        distinct = subst (λ t. are_distinct (keys_of t) ≡ true) same distinct;
        few = subst (λ t. length t ≤ most) same few;
      }
  added before (x ∷ xs) table distinct few h = by (entry x) refl (λ next d f k. added next xs table d f k) h
    where
      by : (e : Option (List ℕ × V)) → entry x ≡ e →
          ((next : List (List ℕ × V)) → are_distinct (keys_of next) ≡ true → length next ≤ most → through declare next xs ≡ Some table → IsAdded next xs table) →
          option_and_then (λ next. through declare next xs) (declare_entry most before e) ≡ Some table → IsAdded before (x ∷ xs) table
      by None is rest k = cc
      by (Some e) is rest k = step (may_declare most before e.0) refl k
        where
          step : (test : Bool) → may_declare most before e.0 ≡ test → option_and_then (λ next. through declare next xs) (guard test (Some (before ++ (e.0, e.1) ∷ []))) ≡ Some table → IsAdded before (x ∷ xs) table
          step false may k = cc
          step true may k =
              let parts = may_parts most before e.0 may in
              let room : length before < most = parts.1 in
              let others = rest (before ++ e ∷ []) (entries_distinct before e.0 e.1 parts.0 distinct) (rw length-append (omega (arith, room))) k in
              record {
                new = e ∷ others.new;
                behind = others.behind ∙ append_assoc before (e ∷ []) others.new;
                entries = λ j. is j ∷ others.entries j;
                distinct = others.distinct;
                few = others.few;
              }

  accepted : (before : List (List ℕ × V)) (xs : List A) (new : List (List ℕ × V)) → map entry xs ≡ map Some new → are_distinct (keys_of (before ++ new)) ≡ true →
      length (before ++ new) ≤ most → through declare before xs ≡ Some (before ++ new)
  unfolding through declare declare_entry declared guard
  accepted before [] [] h distinct few = ap Some (sym (append-nil before))
  accepted before [] (e ∷ new) h distinct few = cc
  accepted before (x ∷ xs) [] h distinct few = cc
  accepted before (x ∷ xs) (e ∷ new) h distinct few =
      let both : entry x ∷ map entry xs ≡ Some e ∷ map Some new = h in
      let first : entry x ≡ Some e = cc in
      let others : map entry xs ≡ map Some new = cc in
      let shift : (before ++ e ∷ []) ++ new ≡ before ++ e ∷ new = append_assoc before (e ∷ []) new in
      let long : length (before ++ e ∷ new) ≡ length before + suc (length new) = length-append before (e ∷ new) in
      let may : may_declare most before e.0 ≡ true = may_if most before e.0 (fresh before e new distinct) (omega (arith, few, long)) in
      ap (λ o. option_and_then (λ next. through declare next xs) (declare_entry most before o)) first
      ∙ ap (λ t. option_and_then (λ next. through declare next xs) (guard t (Some (before ++ e ∷ [])))) may
      ∙ accepted (before ++ e ∷ []) xs new others (subst (λ t. are_distinct (keys_of t) ≡ true) (sym shift) distinct) (subst (λ t. length t ≤ most) (sym shift) few)
      ∙ ap Some shift

  declared_so : (step : List (List ℕ × V) → A → Option (List (List ℕ × V))) → ((table : List (List ℕ × V)) (x : A) → step table x ≡ declare table x) →
      (xs : List A) (table : List (List ℕ × V)) → (through step [] xs ≡ Some table) ↔ AreDeclared entry most xs table
  unfolding are_distinct
  declared_so step same xs table = (
    λ h.
        let all = added [] xs table refl (omega arith) (sym (through_same step declare same [] xs) ∙ h) in
        record { entries = all.entries ∙ ap (map Some) (sym all.behind); distinct = all.distinct; few = all.few },
    λ all. through_same step declare same [] xs ∙ accepted [] xs table all.entries all.distinct all.few,
  )

predicate_step : (types : List (List ℕ)) (table : Predicates) (p : PredicateForm) → with_predicate types table p ≡ declare (predicate_entry types) 4096 table p
unfolding with_predicate declared_predicate predicate_entry declare declare_entry
predicate_step types table p = by (argument_types_of types p.variables)
  where
    by : (argument_types : Option (List (List ℕ))) → declared_predicate table (folded p.name) argument_types
        ≡ declare_entry 4096 table (option_map (λ found. (folded p.name, found)) argument_types)
    by None = refl
    by (Some argument_types) = refl

pub predicates_declared : ArePredicatesDeclared
unfolding predicates_from
predicates_declared types predicates table = declared_so (predicate_entry types) 4096 (with_predicate types) (predicate_step types) predicates table

function_step : (types : List (List ℕ)) (table : Predicates) (f : PredicateForm) → with_function types table f ≡ declare (function_entry types) 4096 table f
unfolding with_function function_entry declare declare_entry guard
function_step types table f = by (may_have (folded f.name) f.variables)
  where
    by : (test : Bool) → guard test (with_predicate types table f) ≡ declare_entry 4096 table (guard test (predicate_entry types f))
    by true = predicate_step types table f
    by false = refl

pub functions_declared : AreFunctionsDeclared
unfolding functions_from
functions_declared types functions table = declared_so (function_entry types) 4096 (with_function types) (function_step types) functions table

-- an action without its increases
abbrev plain : List ℕ × CostedAction → List ℕ × Action
plain e = (e.0, e.1.action)

-- an action is declared with its increases as an entry is
action_step : (types : List (List ℕ)) (vocabulary : Vocabulary) (entries : List (List ℕ × CostedAction)) (a : ActionForm) →
    with_action_of types vocabulary (action_tables entries) a ≡ option_map action_tables (declare (action_entry types vocabulary) 4096 entries a)
unfolding with_action_of declared_action action_entry action_tables declare declare_entry declared may_declare number_named guard
action_step types vocabulary entries a = by (action_meant types vocabulary a)
  where
    keys : keys_of (action_tables entries).actions ≡ keys_of entries
    keys = keys_of-map_values (λ (m : CostedAction). m.action) entries

    many : length (action_tables entries).actions ≡ length entries
    many = length-map entries plain

    same : may_declare 4096 (action_tables entries).actions (folded a.name) ≡ may_declare 4096 entries (folded a.name)
    same = λ j. is_none (position_from (bytes_eq (folded a.name)) 0 (keys j)) && nat_lt (many j) 4096

    more : (m : CostedAction) → tables_with (action_tables entries) m ((action_tables entries).actions ++ (folded a.name, m.action) ∷ []) ≡ action_tables (entries ++ (folded a.name, m) ∷ [])
    more m = λ j. record {
      actions = sym (map-append plain entries ((folded a.name, m) ∷ [])) j;
      increases = sym (map-append (λ (e : List ℕ × CostedAction). e.1.increases) entries ((folded a.name, m) ∷ [])) j;
    }

    test : (m : CostedAction) (t : Bool) →
        option_map (tables_with (action_tables entries) m) (guard t (Some ((action_tables entries).actions ++ (folded a.name, m.action) ∷ [])))
        ≡ option_map action_tables (guard t (Some (entries ++ (folded a.name, m) ∷ [])))
    test m true = ap Some (more m)
    test m false = refl

    by : (meant : Option CostedAction) → declared_action (action_tables entries) (folded a.name) meant
        ≡ option_map action_tables (declare_entry 4096 entries (option_map (λ m. (folded a.name, m)) meant))
    by None = refl
    by (Some m) =
        ap (λ t. option_map (tables_with (action_tables entries) m) (guard t (Some ((action_tables entries).actions ++ (folded a.name, m.action) ∷ [])))) same
        ∙ test m (may_declare 4096 entries (folded a.name))

pub actions_declared : AreActionsDeclared
unfolding actions_from action_tables
actions_declared types vocabulary actions tables = (λ h. by (through (declare (action_entry types vocabulary) 4096) [] actions) refl (sym shown ∙ h), back)
  where
    so : (entries : List (List ℕ × CostedAction)) → (through (declare (action_entry types vocabulary) 4096) [] actions ≡ Some entries) ↔ AreDeclared (action_entry types vocabulary) 4096 actions entries
    so entries = declared_so (action_entry types vocabulary) 4096 (declare (action_entry types vocabulary) 4096) (λ table x. refl) actions entries

    shown : through (with_action_of types vocabulary) no_actions actions ≡ option_map action_tables (through (declare (action_entry types vocabulary) 4096) [] actions)
    shown = through_shown action_tables (declare (action_entry types vocabulary) 4096) (with_action_of types vocabulary) (action_step types vocabulary) [] actions

    by : (found : Option (List (List ℕ × CostedAction))) → through (declare (action_entry types vocabulary) 4096) [] actions ≡ found → option_map action_tables found ≡ Some tables →
        (entries : List (List ℕ × CostedAction)) × (tables ≡ action_tables entries) × AreDeclared (action_entry types vocabulary) 4096 actions entries
    by None is e = cc
    by (Some entries) is e = (entries, (let same : action_tables entries ≡ tables = cc in sym same), (so entries).0 is)

    back : ((entries : List (List ℕ × CostedAction)) × (tables ≡ action_tables entries) × AreDeclared (action_entry types vocabulary) 4096 actions entries) →
        through (with_action_of types vocabulary) no_actions actions ≡ Some tables
    back (entries, is, all) = shown ∙ ap (option_map action_tables) ((so entries).1 all) ∙ ap Some (sym is)
