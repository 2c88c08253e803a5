-- A table in which a name that is declared again keeps its value has each declared entry once, where it first occurs.

use Rattle.std.proofs.Common.{◌≡◌, ℕ, ◌+◌, ◌<◌, ◌≤◌, ◌++◌, ◌||◌, ◌&&◌, zero, suc, Bool, true, false, not, List, [], ◌∷◌, length, slice_get, Option, Some, None, is_some, refl, ap, sym, ◌∙◌, subst, arith, true≢false, append_assoc, append-nil, length-append, if◌then◌else◌}
use Rattle.std.proofs.lemmas.Bool.{and_parts, or_parts, not-true}
use Rattle.std.proofs.lemmas.List.{map-append}
use Rattle.std.proofs.lemmas.List.Folds.{list_any-append}
use Rattle.std.proofs.lemmas.Slice.Eq.{bytes_eq-Decides}
use Rattle.std.specs.Cmp.{IsEquivalence}
use Rattle.std.proofs.lemmas.Cmp.{and_equiv, on_equiv, nat_list_eq_equiv}
use Rattle.std.specs.List.{list_any}
use Rattle.std.specs.Map.{keys_of}
use Rattle.std.specs.Option.{option_and_then}
use Rattle.std.specs.Str.{bytes_eq}
use Rattle.strips_task.specs.FirstOccurrences.{first_occurrences}
use Rattle.strips_task.specs.Names.{number_named, are_distinct}
use Rattle.strips_task.proofs.FirstOccurrences.{first_occurrences-push}
use Rattle.strips_task.proofs.NameNumbers.{entries_distinct}
use Rattle.pddl_syntax.specs.Optional.{guard, through}
use Rattle.pddl_syntax.proofs.Guards.{guard_held}
use Rattle.pddl_reader.specs.Tables.{value_at, value_named}
use Rattle.reading_laws.specs.DeclaredOnce.{is_same_entry}
use Rattle.reading_laws.proofs.DeclaredTables.{fresh}
use Rattle.pddl_reader.proofs.NamedValues.{unnamed_value}
use Rattle.reading_laws.proofs.NamedEntries.{entry_numbered}
use Rattle.strips_task.proofs.NamedEntries.{entry_at}
use Rattle.pddl_reader.proofs.TableLemmas.{value_numbered, value_unnamed}

-- an item that passes a test is found by it
pub passes_at : {A : Type 0} (p : A → Bool) (xs : List A) (n : ℕ) (x : A) → slice_get xs n ≡ Some x → p x ≡ true → list_any p xs ≡ true
passes_at p [] n x h t = cc
passes_at p (y ∷ ys) zero x h t = let same : y ≡ x = cc in ap (λ b. b || list_any p ys) (ap p same ∙ t)
passes_at p (y ∷ ys) (suc n) x h t = by (p y) (passes_at p ys n x h t)
  where
    by : (b : Bool) → list_any p ys ≡ true → (b || list_any p ys) ≡ true
    by true e = refl
    by false e = e

-- and where a test finds one there is one
found_at : {A : Type 0} (p : A → Bool) (xs : List A) → list_any p xs ≡ true → (n : ℕ) × (x : A) × (slice_get xs n ≡ Some x) × (p x ≡ true)
found_at p [] h = cc
found_at {A} p (y ∷ ys) h = by (p y) refl (λ k. found_at p ys k) h
  where
    by : (b : Bool) → p y ≡ b → (list_any p ys ≡ true → (n : ℕ) × (x : A) × (slice_get ys n ≡ Some x) × (p x ≡ true)) → (b || list_any p ys) ≡ true →
        (n : ℕ) × (x : A) × (slice_get (y ∷ ys) n ≡ Some x) × (p x ≡ true)
    by true e rest k = (0, y, refl, e)
    by false e rest k = let there = rest k in (suc there.0, there.1, there.2, there.3)

-- the value of a name stands in an entry
pub value_entry : {V : Type 0} (table : List (List ℕ × V)) (name : List ℕ) (v : V) → value_named table name ≡ Some v →
    (n : ℕ) × (slice_get table n ≡ Some (name, v))
unfolding value_named value_at
value_entry {V} table name v h = by (number_named table name) refl h
  where
    by : (found : Option ℕ) → number_named table name ≡ found → value_at table found ≡ Some v → (n : ℕ) × (slice_get table n ≡ Some (name, v))
    by None e k = cc
    by (Some n) e k =
        let entry = entry_at table name n e in
        let both : Some entry.0 ≡ Some v = sym (value_numbered table name name n entry.0 e entry.1) ∙ h in
        let same : entry.0 ≡ v = cc in
        (n, subst (λ w. slice_get table n ≡ Some (name, w)) same entry.1)

-- and the entry of a name has its value, where names are distinct
entry_value : {V : Type 0} (table : List (List ℕ × V)) (n : ℕ) (name : List ℕ) (v : V) → are_distinct (keys_of table) ≡ true → slice_get table n ≡ Some (name, v) →
    value_named table name ≡ Some v
unfolding number_named
entry_value table n name v distinct h =
    value_numbered table name name n v (entry_numbered 0 table n name v distinct h ∙ ap Some (let e : 0 + n ≡ n = omega arith in e)) h

-- the first of some entries are distinct if all are
distinct_front : {V : Type 0} (front more : List (List ℕ × V)) → are_distinct (keys_of (front ++ more)) ≡ true → are_distinct (keys_of front) ≡ true
unfolding are_distinct
distinct_front [] more h = refl
distinct_front {V} (e ∷ es) more h =
    let parts = and_parts (not (list_any (bytes_eq e.0) (keys_of (es ++ more)))) (are_distinct (keys_of (es ++ more))) h in
    let all : list_any (bytes_eq e.0) (keys_of es ++ keys_of more) ≡ false =
    ap (list_any (bytes_eq e.0)) (sym (map-append (λ (x : List ℕ × V). x.0) es more)) ∙ not-true (list_any (bytes_eq e.0) (keys_of (es ++ more))) parts.0 in
    let first : list_any (bytes_eq e.0) (keys_of es) ≡ false =
    (or_parts (list_any (bytes_eq e.0) (keys_of es)) (list_any (bytes_eq e.0) (keys_of more)) (sym (list_any-append (bytes_eq e.0) (keys_of es) (keys_of more)) ∙ all)).0 in
    λ j. not (first j) && distinct_front es more parts.1 j

-- the items, and one more behind them unless an equal one is there
abbrev pub with_new : {A : Type 0} → (A → A → Bool) → List A → A → List A
with_new eq xs x = (if list_any (eq x) xs then xs else xs ++ x ∷ [])

-- which is a list behind them
inserted : {A : Type 0} (eq : A → A → Bool) (xs : List A) (x : A) → (more : List A) × (with_new eq xs x ≡ xs ++ more)
inserted {A} eq xs x = by (list_any (eq x) xs) refl
  where
    by : (b : Bool) → list_any (eq x) xs ≡ b → (more : List A) × (with_new eq xs x ≡ xs ++ more)
    by true e = ([], ap (λ c. if c then xs else xs ++ x ∷ []) e ∙ sym (append-nil xs))
    by false e = (x ∷ [], ap (λ c. if c then xs else xs ++ x ∷ []) e)

-- the first occurrences of a longer list begin with those of a shorter one
first_more : {A : Type 0} {eq : A → A → Bool} → IsEquivalence eq → (done xs : List A) → (more : List A) × (first_occurrences eq (done ++ xs) ≡ first_occurrences eq done ++ more)
first_more {A} {eq} laws done [] = ([], ap (first_occurrences eq) (append-nil done) ∙ sym (append-nil (first_occurrences eq done)))
first_more {A} {eq} laws done (x ∷ xs) =
    let rest = first_more laws (done ++ x ∷ []) xs in
    let one = inserted eq (first_occurrences eq done) x in (
      one.0 ++ rest.0,
      ap (first_occurrences eq) (sym (append_assoc done (x ∷ []) xs)) ∙ rest.1
          ∙ ap (λ l. l ++ rest.0) (first_occurrences-push laws done x ∙ one.1) ∙ append_assoc (first_occurrences eq done) one.0 rest.0,
    )

-- a name with its value is put into a table, unless the name has another value there or there is no room
unfoldable pub put_by : {V : Type 0} → (V → V → Bool) → (ℕ → Bool) → Option V → List (List ℕ × V) → List ℕ × V → Option (List (List ℕ × V))
put_by same room None table e = guard (room (length table)) (Some (table ++ e ∷ []))
put_by same room (Some known) table e = guard (same known e.1) (Some table)

unfoldable pub put : {V : Type 0} → (V → V → Bool) → (ℕ → Bool) → List (List ℕ × V) → List ℕ × V → Option (List (List ℕ × V))
put same room table e = put_by same room (value_named table e.0) table e

-- there is room for a table of one entry more, where it keeps to its bound
pub record IsRoom (room : ℕ → Bool) (Fits : ℕ → Type 0) : Type 0 where
  pub grows : (n m : ℕ) → m ≡ n + 1 → room n ≡ true → Fits m
  pub is_there : (n m : ℕ) → n < m → Fits m → room n ≡ true
  pub fewer : (n m : ℕ) → n ≤ m → Fits m → Fits n

module _ {V : Type 0} (same : V → V → Bool) (laws : IsEquivalence same) (decides : (v w : V) → same v w ≡ true → v ≡ w) (room : ℕ → Bool) (Fits : ℕ → Type 0) (bound : IsRoom room Fits) where
  entry_laws : IsEquivalence (is_same_entry same)
  entry_laws = and_equiv (on_equiv (λ (e : List ℕ × V). e.0) nat_list_eq_equiv) (on_equiv (λ (e : List ℕ × V). e.1) laws)

  -- a name that has the value is found with it
  known_any : (table : List (List ℕ × V)) (e : List ℕ × V) → value_named table e.0 ≡ Some e.1 → list_any (is_same_entry same e) table ≡ true
  known_any table e h =
      let there = value_entry table e.0 e.1 h in
      passes_at (is_same_entry same e) table there.0 e there.1 (entry_laws.refl e)

  -- and has the value if it is found with it
  any_known : (table : List (List ℕ × V)) (e : List ℕ × V) → are_distinct (keys_of table) ≡ true → list_any (is_same_entry same e) table ≡ true → value_named table e.0 ≡ Some e.1
  any_known table e distinct h =
      let there = found_at (is_same_entry same e) table h in
      let parts = and_parts (bytes_eq e.0 there.1.0) (same e.1 there.1.1) there.3 in
      let name : e.0 ≡ there.1.0 = (bytes_eq-Decides e.0 there.1.0).0 parts.0 in
      let value : e.1 ≡ there.1.1 = decides e.1 there.1.1 parts.1 in
      ap (value_named table) name ∙ entry_value table there.0 there.1.0 there.1.1 distinct there.2 ∙ ap Some (sym value)

  none_any : (table : List (List ℕ × V)) (e : List ℕ × V) → are_distinct (keys_of table) ≡ true → (value_named table e.0 ≡ Some e.1 → ⊥) → list_any (is_same_entry same e) table ≡ false
  none_any table e distinct other = by (list_any (is_same_entry same e) table) refl
    where
      by : (b : Bool) → list_any (is_same_entry same e) table ≡ b → list_any (is_same_entry same e) table ≡ false
      by false k = k
      by true k = absurd (other (any_known table e distinct k))

  -- what is put is inserted
  put_gives : (table : List (List ℕ × V)) (e : List ℕ × V) (next : List (List ℕ × V)) → are_distinct (keys_of table) ≡ true → Fits (length table) →
      put same room table e ≡ Some next → (next ≡ with_new (is_same_entry same) table e) × (are_distinct (keys_of next) ≡ true) × Fits (length next)
  unfolding put put_by
  put_gives table e next distinct fits h = by (value_named table e.0) refl h
    where
      by : (found : Option V) → value_named table e.0 ≡ found → put_by same room found table e ≡ Some next →
          (next ≡ with_new (is_same_entry same) table e) × (are_distinct (keys_of next) ≡ true) × Fits (length next)
      by None is k =
          let held = guard_held (room (length table)) (table ++ e ∷ []) next k in
          let none : list_any (is_same_entry same e) table ≡ false = none_any table e distinct (λ z. let q : Some e.1 ≡ None = sym z ∙ is in cc) in (
            sym held.1 ∙ sym (ap (λ b. if b then table else table ++ e ∷ []) none),
            subst (λ t. are_distinct (keys_of t) ≡ true) held.1 (entries_distinct table e.0 e.1 (unnamed_value table e.0 is) distinct),
            subst (λ t. Fits (length t)) held.1 (bound.grows (length table) (length (table ++ e ∷ [])) (length-append table (e ∷ [])) held.0),
          )
      by (Some known) is k =
          let held = guard_held (same known e.1) table next k in
          let value : known ≡ e.1 = decides known e.1 held.0 in
          let any : list_any (is_same_entry same e) table ≡ true = known_any table e (is ∙ ap Some value) in (
            sym held.1 ∙ sym (ap (λ b. if b then table else table ++ e ∷ []) any),
            subst (λ t. are_distinct (keys_of t) ≡ true) held.1 distinct,
            subst (λ t. Fits (length t)) held.1 fits,
          )

  -- and what may be inserted may be put
  put_accepts : (table : List (List ℕ × V)) (e : List ℕ × V) (next : List (List ℕ × V)) → next ≡ with_new (is_same_entry same) table e → are_distinct (keys_of table) ≡ true →
      are_distinct (keys_of next) ≡ true → Fits (length next) → put same room table e ≡ Some next
  unfolding put put_by guard
  put_accepts table e next same_next distinct distinct_next fits = by (value_named table e.0) refl
    where
      pushed : list_any (is_same_entry same e) table ≡ false → next ≡ table ++ e ∷ []
      pushed none = same_next ∙ ap (λ b. if b then table else table ++ e ∷ []) none

      by : (found : Option V) → value_named table e.0 ≡ found → put_by same room (value_named table e.0) table e ≡ Some next
      by None is =
          let next_is = pushed (none_any table e distinct (λ z. let q : Some e.1 ≡ None = sym z ∙ is in cc)) in
          let long : length next ≡ length table + 1 = ap length next_is ∙ length-append table (e ∷ []) in
          ap (λ found. put_by same room found table e) is
          ∙ ap (λ b. guard b (Some (table ++ e ∷ []))) (bound.is_there (length table) (length next) (omega (arith, long)) fits)
          ∙ ap Some (sym next_is)
      by (Some known) is = test (same known e.1) refl
        where
          test : (b : Bool) → same known e.1 ≡ b → put_by same room (value_named table e.0) table e ≡ Some next
          test true alike =
              let value : known ≡ e.1 = decides known e.1 alike in
              let any : list_any (is_same_entry same e) table ≡ true = known_any table e (is ∙ ap Some value) in
              ap (λ found. put_by same room found table e) is ∙ ap (λ b. guard b (Some table)) alike
              ∙ ap Some (sym (same_next ∙ ap (λ b. if b then table else table ++ e ∷ []) any))
          test false apart =
              let other : value_named table e.0 ≡ Some e.1 → ⊥ =
              λ z. let q : Some known ≡ Some e.1 = sym is ∙ z in let value : known ≡ e.1 = cc in true≢false (sym (laws.refl e.1) ∙ ap (λ v. same v e.1) (sym value) ∙ apart) in
              let next_is = pushed (none_any table e distinct other) in
              let new : is_some (number_named table e.0) ≡ false = fresh table e [] (subst (λ t. are_distinct (keys_of t) ≡ true) next_is distinct_next) in
              let missing : value_named table e.0 ≡ None = value_unnamed table e.0 (unnumbered (number_named table e.0) new) in
              absurd (let q : Some known ≡ None = sym is ∙ missing in none_known q)
            where
              unnumbered : (found : Option ℕ) → is_some found ≡ false → found ≡ None
              unnumbered None k = refl
              unnumbered (Some n) k = cc

              none_known : Some known ≡ None → ⊥
              none_known q = cc

  -- entries that are put one after the other are there once each
  pub all_put : (done table entries next : List (List ℕ × V)) → table ≡ first_occurrences (is_same_entry same) done → are_distinct (keys_of table) ≡ true → Fits (length table) →
      through (put same room) table entries ≡ Some next →
      (next ≡ first_occurrences (is_same_entry same) (done ++ entries)) × (are_distinct (keys_of next) ≡ true) × Fits (length next)
  unfolding through
  all_put done table [] next is distinct fits h =
      let same_table : table ≡ next = cc in (
        sym same_table ∙ is ∙ ap (first_occurrences (is_same_entry same)) (sym (append-nil done)),
        subst (λ t. are_distinct (keys_of t) ≡ true) same_table distinct,
        subst (λ t. Fits (length t)) same_table fits,
      )
  all_put done table (e ∷ entries) next is distinct fits h =
      by (put same room table e) (λ t k. put_gives table e t distinct fits k) (λ t a d f k. all_put (done ++ e ∷ []) t entries next a d f k) h
    where
      by : (found : Option (List (List ℕ × V))) →
          ((t : List (List ℕ × V)) → found ≡ Some t → (t ≡ with_new (is_same_entry same) table e) × (are_distinct (keys_of t) ≡ true) × Fits (length t)) →
          ((t : List (List ℕ × V)) → t ≡ first_occurrences (is_same_entry same) (done ++ e ∷ []) → are_distinct (keys_of t) ≡ true → Fits (length t) →
          through (put same room) t entries ≡ Some next →
          (next ≡ first_occurrences (is_same_entry same) ((done ++ e ∷ []) ++ entries)) × (are_distinct (keys_of next) ≡ true) × Fits (length next)) →
          option_and_then (λ t. through (put same room) t entries) found ≡ Some next →
          (next ≡ first_occurrences (is_same_entry same) (done ++ e ∷ entries)) × (are_distinct (keys_of next) ≡ true) × Fits (length next)
      by None gives rest k = cc
      by (Some t) gives rest k =
          let one = gives t refl in
          let all = rest t (one.0 ∙ ap (λ ks. with_new (is_same_entry same) ks e) is ∙ sym (first_occurrences-push entry_laws done e)) one.1 one.2 k in
          (all.0 ∙ ap (first_occurrences (is_same_entry same)) (append_assoc done (e ∷ []) entries), all.1, all.2)

  pub all_accepted : (done entries : List (List ℕ × V)) → are_distinct (keys_of (first_occurrences (is_same_entry same) (done ++ entries))) ≡ true →
      Fits (length (first_occurrences (is_same_entry same) (done ++ entries))) →
      through (put same room) (first_occurrences (is_same_entry same) done) entries ≡ Some (first_occurrences (is_same_entry same) (done ++ entries))
  unfolding through
  all_accepted done [] distinct fits = ap (λ l. Some (first_occurrences (is_same_entry same) l)) (sym (append-nil done))
  all_accepted done (e ∷ entries) distinct fits =
      let shift : (done ++ e ∷ []) ++ entries ≡ done ++ e ∷ entries = append_assoc done (e ∷ []) entries in
      let distinct_all : are_distinct (keys_of (first_occurrences (is_same_entry same) ((done ++ e ∷ []) ++ entries))) ≡ true =
      subst (λ l. are_distinct (keys_of (first_occurrences (is_same_entry same) l)) ≡ true) (sym shift) distinct in
      let fits_all : Fits (length (first_occurrences (is_same_entry same) ((done ++ e ∷ []) ++ entries))) = subst (λ l. Fits (length (first_occurrences (is_same_entry same) l))) (sym shift) fits in
      let behind = first_more entry_laws (done ++ e ∷ []) entries in
      let before = first_more entry_laws done (e ∷ []) in
      let distinct_next = distinct_front (first_occurrences (is_same_entry same) (done ++ e ∷ [])) behind.0 (subst (λ t. are_distinct (keys_of t) ≡ true) behind.1 distinct_all) in
      let distinct_now = distinct_front (first_occurrences (is_same_entry same) done) before.0 (subst (λ t. are_distinct (keys_of t) ≡ true) before.1 distinct_next) in
      let long : length (first_occurrences (is_same_entry same) ((done ++ e ∷ []) ++ entries)) ≡ length (first_occurrences (is_same_entry same) (done ++ e ∷ [])) + length behind.0 =
      ap length behind.1 ∙ length-append (first_occurrences (is_same_entry same) (done ++ e ∷ [])) behind.0 in
      let fits_next : Fits (length (first_occurrences (is_same_entry same) (done ++ e ∷ []))) = bound.fewer
      (length (first_occurrences (is_same_entry same) (done ++ e ∷ []))) (length (first_occurrences (is_same_entry same) ((done ++ e ∷ []) ++ entries))) (omega (arith, long)) fits_all in
      ap (option_and_then (λ t. through (put same room) t entries))
      (put_accepts (first_occurrences (is_same_entry same) done) e (first_occurrences (is_same_entry same) (done ++ e ∷ [])) (first_occurrences-push entry_laws done e) distinct_now distinct_next fits_next)
      ∙ all_accepted (done ++ e ∷ []) entries distinct_all fits_all
      ∙ ap (λ l. Some (first_occurrences (is_same_entry same) l)) shift
