-- A name that no entry has.

use Rattle.std.proofs.Common.{◌≡◌, ℕ, Bool, true, false, cond, not, ◌||◌, ◌&&◌, ◌+◌, List, [], ◌∷◌, ◌++◌, Option, None, Some, is_some, refl, ap, sym, ◌∙◌, true≢false}
use Rattle.std.specs.List.{list_any, position_from}
use Rattle.std.specs.Cmp.Lexicographic.{nat_list_eq_equiv}
use Rattle.std.proofs.lemmas.List.{map-append}
use Rattle.std.proofs.lemmas.List.Folds.{list_any-append}
use Rattle.std.proofs.lemmas.Iterator.Adapters.{position_from-zero}
use Rattle.std.specs.Map.{keys_of, lookup}
use Rattle.std.specs.Str.{bytes_eq}
use Rattle.indexmap.proofs.MapLemmas.{some_index}
use Rattle.strips_task.specs.Names.{number_named, are_distinct}
use Rattle.strips_task.proofs.AtomEquality.{both_hold}

not_true : (b : Bool) → not b ≡ true → b ≡ false
not_true true h = absurd (true≢false (sym h))
not_true false h = refl

neither : (a b : Bool) → (a || b) ≡ false → (a ≡ false) × (b ≡ false)
neither true b h = absurd (true≢false h)
neither false b h = (refl, h)

-- where no entry has the name, a look-up finds none
pub unnamed : {V : Type 0} (entries : List (List ℕ × V)) (name : List ℕ) → number_named entries name ≡ None → lookup (bytes_eq name) entries ≡ None
unfolding number_named
unnamed {V} entries name h = by (lookup (bytes_eq name) entries) refl
  where
    by : (r : Option V) → lookup (bytes_eq name) entries ≡ r → lookup (bytes_eq name) entries ≡ None
    by None e = e
    by (Some v) e =
        absurd (true≢false (sym (ap is_some e) ∙ sym (some_index (bytes_eq name) entries)
        ∙ ap is_some (position_from-zero (bytes_eq name) (keys_of entries) ∙ h)))

-- where a test finds no index, no item passes it
none_passes : {A : Type 0} (p : A → Bool) (at : ℕ) (xs : List A) → position_from p at xs ≡ None → list_any p xs ≡ false
none_passes p at [] e = refl
none_passes p at (x ∷ xs) e = by (p x) refl (none_passes p (at + 1) xs)
  where
    by : (b : Bool) → p x ≡ b → (position_from p (at + 1) xs ≡ None → list_any p xs ≡ false) → list_any p (x ∷ xs) ≡ false
    by true is rest = let found : Some at ≡ None = sym (ap (λ c. cond c (Some at) (position_from p (at + 1) xs)) is) ∙ e in cc
    by false is rest =
        ap (λ c. c || list_any p xs) is ∙ rest (sym (ap (λ c. cond c (Some at) (position_from p (at + 1) xs)) is) ∙ e)

-- a new name behind distinct ones leaves them distinct
distinct_push : (names : List (List ℕ)) (name : List ℕ) → are_distinct names ≡ true → list_any (bytes_eq name) names ≡ false → are_distinct (names ++ name ∷ []) ≡ true
unfolding are_distinct
distinct_push [] name h new = refl
distinct_push (first ∷ names) name h new =
    let parts = both_hold (not (list_any (bytes_eq first) names)) (are_distinct names) h in
    let apart : (bytes_eq name first ≡ false) × (list_any (bytes_eq name) names ≡ false) = neither (bytes_eq name first) (list_any (bytes_eq name) names) new in
    let none : list_any (bytes_eq first) names ≡ false = not_true (list_any (bytes_eq first) names) parts.0 in
    let other : bytes_eq first name ≡ false = nat_list_eq_equiv.symm first name ∙ apart.0 in
    let absent : list_any (bytes_eq first) (names ++ name ∷ []) ≡ false =
    list_any-append (bytes_eq first) names (name ∷ []) ∙ (λ j. none j || (other j || false)) in
    (λ j. not (absent j) && distinct_push names name parts.1 apart.1 j)

-- and so does a new entry
pub entries_distinct : {V : Type 0} (entries : List (List ℕ × V)) (name : List ℕ) (value : V) → number_named entries name ≡ None
    → are_distinct (keys_of entries) ≡ true → are_distinct (keys_of (entries ++ (name, value) ∷ [])) ≡ true
unfolding number_named
entries_distinct entries name value new h =
    ap are_distinct (map-append (λ e. e.0) entries ((name, value) ∷ []))
    ∙ distinct_push (keys_of entries) name h (none_passes (bytes_eq name) 0 (keys_of entries) new)
