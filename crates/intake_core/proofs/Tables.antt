-- Elements of a list that was written or that grew.

use Rattle.std.proofs.Common.{◌≡◌, ◌≢◌, ℕ, zero, suc, ◌+◌, ◌<◌, ◌≤◌, ⊎_elim, Bool, true, false, List, [], ◌∷◌, ◌++◌, length, get_or, set, filter, Some, None, cond, ap, sym, ◌∙◌, refl, arith, get_or-set_same, get_or-set_other, length-append}
use Rattle.std.specs.Prelude.{slice_get}
use Rattle.std.proofs.Math.ListN.{length-set}
use Rattle.std.proofs.lemmas.Bool.{cases_lt}
use Rattle.std.proofs.lemmas.List.{get_or_append_left, get_or_push}
use Rattle.std.proofs.lemmas.Option.{slice_get-get_or, slice_get_past}

pub get-set_same : {X : Type 0} (xs : List X) (i : ℕ) (y : X) → i < length xs → slice_get (set xs i y) i ≡ Some y
get-set_same xs i y within =
    slice_get-get_or (set xs i y) i y (omega (arith, length-set xs i y, within)) ∙ ap Some (get_or-set_same xs i y y within)

pub get-set_other : {X : Type 0} (xs : List X) (i j : ℕ) (y : X) → j ≢ i → slice_get (set xs i y) j ≡ slice_get xs j
get-set_other xs i j y apart =
    ⊎_elim
    (λ (within : j < length xs).
    slice_get-get_or (set xs i y) j y (omega (arith, length-set xs i y, within)) ∙ ap Some (get_or-set_other xs i j y y apart) ∙ sym (slice_get-get_or xs j y within))
    (λ (past : length xs ≤ j). slice_get_past (set xs i y) j (omega (arith, length-set xs i y, past)) ∙ sym (slice_get_past xs j past))
    (cases_lt j (length xs))

pub length-push : {X : Type 0} (xs : List X) (y : X) → length (xs ++ y ∷ []) ≡ length xs + 1
length-push xs y = length-append xs (y ∷ [])

pub get-push_before : {X : Type 0} (xs : List X) (y : X) (k : ℕ) → k < length xs → slice_get (xs ++ y ∷ []) k ≡ slice_get xs k
get-push_before xs y k within =
    slice_get-get_or (xs ++ y ∷ []) k y (omega (arith, length-push xs y, within)) ∙ ap Some (get_or_append_left xs (y ∷ []) y k within)
    ∙ sym (slice_get-get_or xs k y within)

pub get-push_at : {X : Type 0} (xs : List X) (y : X) (k : ℕ) → length xs ≡ k → slice_get (xs ++ y ∷ []) k ≡ Some y
get-push_at xs y k at = slice_get-get_or (xs ++ y ∷ []) k y (omega (arith, length-push xs y, at)) ∙ ap Some (get_or_push xs y y k at)

pub get-push_past : {X : Type 0} (xs : List X) (y : X) (k : ℕ) → length xs < k → slice_get (xs ++ y ∷ []) k ≡ None
get-push_past xs y k past = slice_get_past (xs ++ y ∷ []) k (omega (arith, length-push xs y, past))

-- an element of a filtered list stands in the list, and passes the test
pub in-filter : {X : Type 0} (test : X → Bool) (xs : List X) (k : ℕ) (x : X) → slice_get (filter test xs) k ≡ Some x
    → (i : ℕ) × ((slice_get xs i ≡ Some x) × (test x ≡ true))
in-filter test [] k x e = absurd (cc)
in-filter test (y ∷ ys) k x e = by (test y) refl k e (λ k e. in-filter test ys k x e)
  where
    by : (b : Bool) → test y ≡ b → (k : ℕ) → slice_get (cond b (y ∷ filter test ys) (filter test ys)) k ≡ Some x
        → ((k : ℕ) → slice_get (filter test ys) k ≡ Some x → (i : ℕ) × ((slice_get ys i ≡ Some x) × (test x ≡ true)))
        → (i : ℕ) × ((slice_get (y ∷ ys) i ≡ Some x) × (test x ≡ true))
    by true f zero e rest = (zero, (e, let same : y ≡ x = cc in ap test (sym same) ∙ f))
    by true f (suc k) e rest = let found = rest k e in (suc found.0, found.1)
    by false f k e rest = let found = rest k e in (suc found.0, found.1)
