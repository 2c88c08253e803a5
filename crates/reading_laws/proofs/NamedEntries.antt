-- The number of a name that is known to stand at an index of a table.

use Rattle.std.proofs.Common.{◌≡◌, ℕ, ◌+◌, zero, suc, Bool, true, false, not, ◌||◌, ◌&&◌, cond, List, [], ◌∷◌, Some, refl, ap, sym, ◌∙◌, arith, true≢false}
use Rattle.std.proofs.lemmas.Slice.Eq.{bytes_eq-Decides}
use Rattle.std.specs.List.{list_any, position_from, slice_get}
use Rattle.std.specs.Map.{keys_of}
use Rattle.std.specs.Str.{bytes_eq}
use Rattle.strips_task.specs.Names.{are_distinct}

-- a test that a name at some index passes is passed by one
any_at : {V : Type 0} (p : List ℕ → Bool) (entries : List (List ℕ × V)) (index : ℕ) (name : List ℕ) (value : V) →
    slice_get entries index ≡ Some (name, value) → p name ≡ true → list_any p (keys_of entries) ≡ true
any_at p [] index name value h t = cc
any_at {V} p ((key, v) ∷ entries) zero name value h t =
    let same : ◌≡◌ {A = List ℕ × V} (key, v) (name, value) = cc in
    ap (λ b. b || list_any p (keys_of entries)) (ap p (ap (λ (e : List ℕ × V). e.0) same) ∙ t)
any_at p ((key, v) ∷ entries) (suc index) name value h t = by (p key) (any_at p entries index name value h t)
  where
    by : (b : Bool) → list_any p (keys_of entries) ≡ true → (b || list_any p (keys_of entries)) ≡ true
    by true e = refl
    by false e = e

-- both parts of a test hold
first_holds : (a b : Bool) → (not a && b) ≡ true → a ≡ false
first_holds true b h = absurd (true≢false (sym h))
first_holds false b h = refl

second_holds : (a b : Bool) → (not a && b) ≡ true → b ≡ true
second_holds true b h = absurd (true≢false (sym h))
second_holds false b h = h

-- the first entry with the name is the one at its index
pub entry_numbered : {V : Type 0} (at : ℕ) (entries : List (List ℕ × V)) (index : ℕ) (name : List ℕ) (value : V) →
    are_distinct (keys_of entries) ≡ true → slice_get entries index ≡ Some (name, value) →
    position_from (bytes_eq name) at (keys_of entries) ≡ Some (at + index)
unfolding are_distinct
entry_numbered at [] index name value d h = cc
entry_numbered {V} at ((key, v) ∷ entries) zero name value d h =
    let same : ◌≡◌ {A = List ℕ × V} (key, v) (name, value) = cc in
    let named : name ≡ key = sym (ap (λ (e : List ℕ × V). e.0) same) in
    let here : at ≡ at + 0 = omega arith in
    ap (λ b. cond b (Some at) (position_from (bytes_eq name) (at + 1) (keys_of entries))) ((bytes_eq-Decides name key).1 named) ∙ ap Some here
entry_numbered {V} at ((key, v) ∷ entries) (suc index) name value d h =
    let there : at + 1 + index ≡ at + suc index = omega arith in
    let others : are_distinct (keys_of entries) ≡ true = second_holds (list_any (bytes_eq key) (keys_of entries)) (are_distinct (keys_of entries)) d in
    by (bytes_eq name key) refl (entry_numbered (at + 1) entries index name value others h ∙ ap Some there)
  where
    apart : list_any (bytes_eq key) (keys_of entries) ≡ false
    apart = first_holds (list_any (bytes_eq key) (keys_of entries)) (are_distinct (keys_of entries)) d

    by : (b : Bool) → bytes_eq name key ≡ b → position_from (bytes_eq name) (at + 1) (keys_of entries) ≡ Some (at + suc index) →
        cond (bytes_eq name key) (Some at) (position_from (bytes_eq name) (at + 1) (keys_of entries)) ≡ Some (at + suc index)
    by true e rest =
        let again : bytes_eq key name ≡ true = (bytes_eq-Decides key name).1 (sym ((bytes_eq-Decides name key).0 e)) in
        absurd (true≢false (sym (any_at (bytes_eq key) entries index name value h again) ∙ apart))
    by false e rest = ap (λ b. cond b (Some at) (position_from (bytes_eq name) (at + 1) (keys_of entries))) e ∙ rest
