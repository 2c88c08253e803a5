-- The entry of a number, and the numbers of names when an entry is added at the end or takes another value.

use Rattle.std.proofs.Common.{◌≡◌, ℕ, ◌<◌, Bool, true, false, cond, unwrap_or, ◌+◌, suc, List, [], ◌∷◌, ◌++◌, length, All, Option, None, Some, if◌then◌else◌, is_some, true≢false, refl, ap, sym, ◌∙◌, subst, arith, slice_get, zero-add}
use Rattle.std.specs.List.{position_from}
use Rattle.std.specs.Map.{keys_of, lookup}
use Rattle.std.specs.Str.{bytes_eq}
use Rattle.std.proofs.lemmas.Iterator.Adapters.{position_from-zero}
use Rattle.std.proofs.lemmas.List.{map-append}
use Rattle.std.proofs.lemmas.Option.{slice_get_within}
use Rattle.std.proofs.lemmas.Slice.Eq.{bytes_eq-Decides}
use Rattle.std.specs.Option.{option_map}
use Rattle.indexmap.specs.IndexMap.{insert_entry}
use Rattle.indexmap.proofs.MapLemmas.{absent_from_lookup, insert_entry-absent, some_index}
use Rattle.pddl_words.specs.Words.{is_name, folded}
use Rattle.pddl_words.specs.declared.short_words.ShortWord.{ShortWord}
use Rattle.pddl_words.specs.ShortWords.{IsWord}
use Rattle.pddl_words.proofs.ShortWordLaws.{one_word}
use Rattle.strips_task.specs.declared.short_names.Numbered.{Numbered}
use Rattle.formulas.specs.Names.{IsStoredName}
use Rattle.strips_task.specs.Names.{number_named, are_distinct, with_entry}
use Rattle.strips_task.specs.ShortNames.{IsNumbered, IsTable}
use Rattle.strips_task.proofs.NameNumbers.{entries_distinct, unnamed}

-- the entry with a number that a name has
entry_from : {V : Type 0} (name : List ℕ) (at number : ℕ) (entries : List (List ℕ × V)) → position_from (bytes_eq name) at (keys_of entries) ≡ Some number
    → (k : ℕ) × (v : V) × (number ≡ at + k) × (slice_get entries k ≡ Some (name, v))
entry_from name at number [] h = cc
entry_from {V} name at number ((key, v) ∷ entries) h = by (entry_from name (at + 1) number entries) (bytes_eq name key) refl h
  where
    by : (position_from (bytes_eq name) (at + 1) (keys_of entries) ≡ Some number → ((k : ℕ) × (w : V) × (number ≡ at + 1 + k) × (slice_get entries k ≡ Some (name, w))))
        → (test : Bool) → bytes_eq name key ≡ test → cond (bytes_eq name key) (Some at) (position_from (bytes_eq name) (at + 1) (keys_of entries)) ≡ Some number
        → (k : ℕ) × (w : V) × (number ≡ at + k) × (slice_get ((key, v) ∷ entries) k ≡ Some (name, w))
    by rest true e k =
        let same : name ≡ key = (bytes_eq-Decides name key).0 e in
        let here : Some at ≡ Some number = sym (ap (λ b. cond b (Some at) (position_from (bytes_eq name) (at + 1) (keys_of entries))) e) ∙ k in
        let first : at ≡ number = cc in
        (0, v, omega (arith, first), ap (λ n. Some (n, v)) (sym same))
    by rest false e k =
        let there = rest (sym (ap (λ b. cond b (Some at) (position_from (bytes_eq name) (at + 1) (keys_of entries))) e) ∙ k) in
        let far : number ≡ at + 1 + there.0 = there.2 in
        (suc there.0, there.1, omega (arith, far), there.3)

-- the entry with the number of a name has the name
pub entry_at : {V : Type 0} (entries : List (List ℕ × V)) (name : List ℕ) (number : ℕ) → number_named entries name ≡ Some number
    → (v : V) × (slice_get entries number ≡ Some (name, v))
unfolding number_named
entry_at entries name number h =
    let found = entry_from name 0 number entries h in
    let k : ℕ = found.0 in
    let is : number ≡ 0 + k = found.2 in
    let same : k ≡ number = omega (arith, is) in
    (found.1, subst (λ i. slice_get entries i ≡ Some (name, found.1)) same found.3)

-- a number that a name has is within
pub number_within : {V : Type 0} (entries : List (List ℕ × V)) (name : List ℕ) (number : ℕ) → number_named entries name ≡ Some number → number < length entries
number_within {V} entries name number h = let entry = entry_at entries name number h in slice_get_within entries number (name, entry.0) entry.1

-- a word that has the number of an entry is its name
pub word_stored : {V : Type 0} (entries : List (List ℕ × V)) (word key : List ℕ) (number : ℕ) (value : V) → number_named entries word ≡ Some number
    → slice_get entries number ≡ Some (key, value) → folded key ≡ key → is_name key ≡ true → (is_name word ≡ true) × (folded word ≡ word)
word_stored {V} entries word key number value named at low is =
    let entry = entry_at entries word number named in
    let same : Some (word, entry.0) ≡ Some (key, value) = sym entry.1 ∙ at in
    let key_is : word ≡ key = ap (λ (o : Option (List ℕ × V)). unwrap_or (option_map (λ e. e.0) o) word) same in
    (ap is_name key_is ∙ is, ap folded key_is ∙ low ∙ sym key_is)

-- the first item that passes a test stays the first one when others follow
position_more : {A : Type 0} (p : A → Bool) (at number : ℕ) (xs ys : List A) → position_from p at xs ≡ Some number → position_from p at (xs ++ ys) ≡ Some number
position_more p at number [] ys h = cc
position_more p at number (x ∷ xs) ys h = by (p x) refl (position_more p (at + 1) number xs ys)
  where
    by : (b : Bool) → p x ≡ b → (position_from p (at + 1) xs ≡ Some number → position_from p (at + 1) (xs ++ ys) ≡ Some number)
        → position_from p at (x ∷ xs ++ ys) ≡ Some number
    by true is rest =
        ap (λ b. cond b (Some at) (position_from p (at + 1) (xs ++ ys))) is ∙ sym (ap (λ b. cond b (Some at) (position_from p (at + 1) xs)) is) ∙ h
    by false is rest =
        ap (λ b. cond b (Some at) (position_from p (at + 1) (xs ++ ys))) is
        ∙ rest (sym (ap (λ b. cond b (Some at) (position_from p (at + 1) xs)) is) ∙ h)

-- an item that alone passes a test is found at the end
position_last : {A : Type 0} (p : A → Bool) (at : ℕ) (xs : List A) (y : A) → position_from p at xs ≡ None → p y ≡ true
    → position_from p at (xs ++ y ∷ []) ≡ Some (at + length xs)
position_last p at [] y none is = ap (λ b. cond b (Some at) None) is ∙ ap Some (omega arith)
position_last p at (x ∷ xs) y none is = by (p x) refl (λ rest. position_last p (at + 1) xs y rest is)
  where
    by : (b : Bool) → p x ≡ b → (position_from p (at + 1) xs ≡ None → position_from p (at + 1) (xs ++ y ∷ []) ≡ Some (at + 1 + length xs))
        → position_from p at (x ∷ xs ++ y ∷ []) ≡ Some (at + suc (length xs))
    by true e rest = let found : Some at ≡ None = sym (ap (λ b. cond b (Some at) (position_from p (at + 1) xs)) e) ∙ none in cc
    by false e rest =
        let far : at + 1 + length xs ≡ at + suc (length xs) = omega arith in
        ap (λ b. cond b (Some at) (position_from p (at + 1) (xs ++ y ∷ []))) e
        ∙ rest (sym (ap (λ b. cond b (Some at) (position_from p (at + 1) xs)) e) ∙ none)
        ∙ ap Some far

-- a name keeps its number when entries follow
pub named_more : {V : Type 0} (entries more : List (List ℕ × V)) (name : List ℕ) (number : ℕ) → number_named entries name ≡ Some number
    → number_named (entries ++ more) name ≡ Some number
unfolding number_named
named_more entries more name number h =
    ap (position_from (bytes_eq name) 0) (map-append (λ e. e.0) entries more) ∙ position_more (bytes_eq name) 0 number (keys_of entries) (keys_of more) h

length_keys : {V : Type 0} (entries : List (List ℕ × V)) → length (keys_of entries) ≡ length entries
length_keys [] = refl
length_keys (entry ∷ entries) = ap suc (length_keys entries)

-- a new name has the last number
pub named_last : {V : Type 0} (entries : List (List ℕ × V)) (name : List ℕ) (value : V) → number_named entries name ≡ None
    → number_named (entries ++ (name, value) ∷ []) name ≡ Some (length entries)
unfolding number_named
named_last entries name value new =
    ap (position_from (bytes_eq name) 0) (map-append (λ e. e.0) entries ((name, value) ∷ []))
    ∙ position_last (bytes_eq name) 0 (keys_of entries) name new ((bytes_eq-Decides name name).1 refl)
    ∙ ap Some (zero-add (length (keys_of entries)) ∙ length_keys entries)

-- and so do the short names
pub numbered_more : {V : Type 0} (entries more : List (List ℕ × V)) (slots : List Numbered) → All (IsNumbered (number_named entries)) slots
    → All (IsNumbered (number_named (entries ++ more))) slots
numbered_more entries more slots all = λ k d within word is.
    let found = all k d within word is in
    (found.0, named_more entries more word _ found.1)

-- a new entry leaves a table a table
pub table_more : {V : Type 0} (entries more : List (List ℕ × V)) (name : List ℕ) (value : V) (slots : List Numbered) → more ≡ entries ++ (name, value) ∷ []
    → number_named entries name ≡ None → IsTable entries slots → IsTable more slots
table_more {V} entries more name value slots is new table =
    subst (λ (es : List (List ℕ × V)). IsTable es slots) (sym is)
    (let after : IsTable (entries ++ (name, value) ∷ []) slots = record {
      distinct = entries_distinct entries name value new table.distinct;
      numbered = numbered_more entries ((name, value) ∷ []) slots table.numbered;
    }
    in after)

-- and its name has the last number, whatever word the name's numbers stand for
pub name_numbered : {V : Type 0} (entries more : List (List ℕ × V)) (name bytes : List ℕ) (value : V) (short : ShortWord) (number : ℕ)
    → more ≡ entries ++ (name, value) ∷ [] → number_named entries name ≡ None → number ≡ length entries → IsStoredName name → bytes ≡ name → IsWord short bytes
    → (word : List ℕ) → IsWord short word → IsStoredName word × (number_named more word ≡ Some number)
name_numbered {V} entries more name bytes value short number is new last stored same short_of word word_of =
    let word_is : word ≡ name = one_word short word bytes word_of short_of ∙ same in (
      subst IsStoredName (sym word_is) stored,
      ap (λ (es : List (List ℕ × V)). number_named es word) is ∙ ap (number_named (entries ++ (name, value) ∷ [])) word_is ∙ named_last entries name value new ∙ ap Some (sym last),
    )

-- an entry with a new name goes last
pub inserted_new : {V : Type 0} (entries : List (List ℕ × V)) (name : List ℕ) (value : V) → number_named entries name ≡ None
    → with_entry entries name value ≡ entries ++ (name, value) ∷ []
inserted_new entries name value new =
    insert_entry-absent bytes_eq name value entries (absent_from_lookup (bytes_eq name) entries (unnamed entries name new))

-- where a look-up finds none, the name has no number
pub none_looked_up : {V : Type 0} (entries : List (List ℕ × V)) (name : List ℕ) → lookup (bytes_eq name) entries ≡ None → number_named entries name ≡ None
unfolding number_named
none_looked_up {V} entries name h = by (number_named entries name) refl
  where
    by : (r : Option ℕ) → number_named entries name ≡ r → number_named entries name ≡ None
    by None e = e
    by (Some number) e =
        absurd (true≢false (sym (ap is_some (position_from-zero (bytes_eq name) (keys_of entries) ∙ e)) ∙ some_index (bytes_eq name) entries ∙ ap is_some h))

-- the first entry with a name has the value that a look-up finds
value_from : {V : Type 0} (name : List ℕ) (at : ℕ) (value : V) (entries : List (List ℕ × V)) → lookup (bytes_eq name) entries ≡ Some value
    → (k : ℕ) × (position_from (bytes_eq name) at (keys_of entries) ≡ Some (at + k)) × (slice_get entries k ≡ Some (name, value))
value_from name at value [] h = cc
value_from {V} name at value ((key, v) ∷ entries) h = by (value_from name (at + 1) value entries) (bytes_eq name key) refl
  where
    by : (lookup (bytes_eq name) entries ≡ Some value
        → ((k : ℕ) × (position_from (bytes_eq name) (at + 1) (keys_of entries) ≡ Some (at + 1 + k)) × (slice_get entries k ≡ Some (name, value))))
        → (test : Bool) → bytes_eq name key ≡ test
        → (k : ℕ) × (position_from (bytes_eq name) at (keys_of ((key, v) ∷ entries)) ≡ Some (at + k)) × (slice_get ((key, v) ∷ entries) k ≡ Some (name, value))
    by rest true e =
        let same : name ≡ key = (bytes_eq-Decides name key).0 e in
        let here : Some v ≡ Some value = sym (ap (λ b. cond b (Some v) (lookup (bytes_eq name) entries)) e) ∙ h in
        let first : at ≡ at + 0 = omega arith in (
          0,
          ap (λ b. cond b (Some at) (position_from (bytes_eq name) (at + 1) (keys_of entries))) e ∙ ap Some first,
          ap (λ n. Some (n, v)) (sym same) ∙ ap (option_map (λ (w : V). (name, w))) here,
        )
    by rest false e =
        let there = rest (sym (ap (λ b. cond b (Some v) (lookup (bytes_eq name) entries)) e) ∙ h) in
        let k : ℕ = there.0 in
        let far : at + 1 + k ≡ at + suc k = omega arith in
        (suc k, ap (λ b. cond b (Some at) (position_from (bytes_eq name) (at + 1) (keys_of entries))) e ∙ there.1 ∙ ap Some far, there.2)

-- a look-up finds the value of the entry with the name's number
pub value_looked_up : {V : Type 0} (entries : List (List ℕ × V)) (name : List ℕ) (value : V) → lookup (bytes_eq name) entries ≡ Some value
    → (number : ℕ) × (number_named entries name ≡ Some number) × (slice_get entries number ≡ Some (name, value))
unfolding number_named
value_looked_up entries name value h =
    let found = value_from name 0 value entries h in
    (found.0, found.1 ∙ ap Some (zero-add found.0), found.2)

-- an entry that has the value already stays the same
kept_again : {V : Type 0} (entries : List (List ℕ × V)) (name : List ℕ) (value : V) → lookup (bytes_eq name) entries ≡ Some value
    → insert_entry bytes_eq entries name value ≡ entries
kept_again [] name value h = cc
kept_again {V} ((key, v) ∷ entries) name value h = by (kept_again entries name value) (bytes_eq name key) refl
  where
    by : (lookup (bytes_eq name) entries ≡ Some value → insert_entry bytes_eq entries name value ≡ entries) → (test : Bool) → bytes_eq name key ≡ test
        → insert_entry bytes_eq ((key, v) ∷ entries) name value ≡ (key, v) ∷ entries
    by rest true e =
        let here : Some v ≡ Some value = sym (ap (λ b. cond b (Some v) (lookup (bytes_eq name) entries)) e) ∙ h in
        let same : value ≡ v = cc in
        ap (λ b. if b then (key, value) ∷ entries else (key, v) ∷ insert_entry bytes_eq entries name value) e ∙ ap (λ w. (key, w) ∷ entries) same
    by rest false e =
        ap (λ b. if b then (key, value) ∷ entries else (key, v) ∷ insert_entry bytes_eq entries name value) e
        ∙ ap (λ es. (key, v) ∷ es) (rest (sym (ap (λ b. cond b (Some v) (lookup (bytes_eq name) entries)) e) ∙ h))

-- an entry that is inserted again with the value that it has, by the number of its name, stays the same
pub inserted_again : {V : Type 0} (entries : List (List ℕ × V)) (name : List ℕ) (value : V) (number : ℕ) → number_named entries name ≡ Some number
    → slice_get entries number ≡ Some (name, value) → with_entry entries name value ≡ entries
inserted_again {V} entries name value number named at = kept_again entries name value (by (lookup (bytes_eq name) entries) refl)
  where
    by : (r : Option V) → lookup (bytes_eq name) entries ≡ r → lookup (bytes_eq name) entries ≡ Some value
    by None e = let none : None ≡ Some number = sym (none_looked_up entries name e) ∙ named in cc
    by (Some w) e =
        let found = value_looked_up entries name w e in
        let first : Some found.0 ≡ Some number = sym found.1 ∙ named in
        let number_is : found.0 ≡ number = cc in
        let same : Some (name, w) ≡ Some (name, value) = sym found.2 ∙ ap (slice_get entries) number_is ∙ at in
        e ∙ ap (option_map (λ (entry : List ℕ × V). entry.1)) same

-- names stay, in their order, when an entry takes another value
pub keys_kept : {V : Type 0} (entries : List (List ℕ × V)) (name : List ℕ) (value before : V) → lookup (bytes_eq name) entries ≡ Some before
    → keys_of (insert_entry bytes_eq entries name value) ≡ keys_of entries
keys_kept [] name value before h = cc
keys_kept {V} ((key, v) ∷ entries) name value before h = by (keys_kept entries name value before) (bytes_eq name key) refl
  where
    by : (lookup (bytes_eq name) entries ≡ Some before → keys_of (insert_entry bytes_eq entries name value) ≡ keys_of entries) → (test : Bool) → bytes_eq name key ≡ test
        → keys_of (insert_entry bytes_eq ((key, v) ∷ entries) name value) ≡ key ∷ keys_of entries
    by rest true e = ap (λ b. keys_of (if b then (key, value) ∷ entries else (key, v) ∷ insert_entry bytes_eq entries name value)) e
    by rest false e =
        ap (λ b. keys_of (if b then (key, value) ∷ entries else (key, v) ∷ insert_entry bytes_eq entries name value)) e
        ∙ ap (λ keys. key ∷ keys) (rest (sym (ap (λ b. cond b (Some v) (lookup (bytes_eq name) entries)) e) ∙ h))

-- an entry that takes another value leaves a table a table
pub table_again : {V : Type 0} (entries more : List (List ℕ × V)) (name : List ℕ) (value before : V) (slots : List Numbered)
    → more ≡ insert_entry bytes_eq entries name value → lookup (bytes_eq name) entries ≡ Some before → IsTable entries slots → IsTable more slots
unfolding number_named
table_again {V} entries more name value before slots is there table =
    let keys : keys_of more ≡ keys_of entries = ap keys_of is ∙ keys_kept entries name value before there in
    let numbers : number_named more ≡ number_named entries =
    ap {B = List ℕ → Option ℕ} (λ names word. position_from (bytes_eq word) 0 names) keys in
    record {
      distinct = ap are_distinct keys ∙ table.distinct;
      numbered = subst (λ (number_of : List ℕ → Option ℕ). All (IsNumbered number_of) slots) (sym numbers) table.numbered;
    }
