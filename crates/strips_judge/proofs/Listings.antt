-- Ranges of numbers, and lists of objects.

use Rattle.std.proofs.Common.{◌≡◌, ℕ, zero, suc, ◌+◌, ◌<◌, ◌≤◌, Bool, true, false, cond, List, [], ◌∷◌, ◌++◌, Some, All, filter, get_or, length, slice_get, refl, sym, ap, ◌∙◌, subst, arith}
use Rattle.std.proofs.lemmas.List.Elements.{filter-append}
use Rattle.std.proofs.lemmas.List.FromFn.{get_or-range_with_len, length-range_with_len}
use Rattle.std.proofs.lemmas.Option.{slice_get_read}
use Rattle.std.specs.List.{range_with_len}
use Rattle.strips_task.specs.declared.tasks.TaskParts.{TaskParts}
use Rattle.strips_judge.specs.Listing.{AreLists}
use Rattle.strips_judge.specs.State.{objects_of}

-- the number at an index of a range from 0 on
pub range_at : (count index : ℕ) → index < count → slice_get (range_with_len 0 count) index ≡ Some index
range_at count index lt =
    slice_get_read (range_with_len 0 count) count index index (sym (length-range_with_len 0 count)) lt
    (sym (get_or-range_with_len 0 count index index lt ∙ (let e : 0 + index ≡ index = omega arith in e)))

-- all numbers of a range are below its end
pub range_below : (count : ℕ) → All (λ k. k < count) (range_with_len 0 count)
range_below count = λ k d lt.
    let short : k < count = omega (arith, lt, length-range_with_len 0 count) in
    let at = get_or-range_with_len 0 count k d short in
    omega (arith, at, short)

pub range_more : (a n : ℕ) → range_with_len a (suc n) ≡ range_with_len a n ++ (a + n) ∷ []
range_more a zero = ap (λ k. k ∷ []) (let e : a ≡ a + 0 = omega arith in e)
range_more a (suc n) = ap (λ l. a ∷ l) (range_more (a + 1) n ∙ ap (λ k. range_with_len (a + 1) n ++ k ∷ []) (let e : a + 1 + n ≡ a + suc n = omega arith in e))

-- those of one number more that pass a test
pub range_kept : (p : ℕ → Bool) (n : ℕ) → filter p (range_with_len 0 (n + 1)) ≡ filter p (range_with_len 0 n) ++ cond (p n) (n ∷ []) []
range_kept p n =
    ap (λ k. filter p (range_with_len 0 k)) (let e : n + 1 ≡ suc n = omega arith in e)
    ∙ ap (filter p) (range_more 0 n ∙ ap (λ k. range_with_len 0 n ++ k ∷ []) (let e : 0 + n ≡ n = omega arith in e))
    ∙ filter-append p (range_with_len 0 n) (n ∷ [])

-- a list of one item
pub one_item : {X : Type 0} (xs : List X) (d : X) → 1 ≤ length xs → length xs < 2 → xs ≡ get_or xs 0 d ∷ []
one_item [] d some few = absurd (omega (arith, some))
one_item (x ∷ []) d some few = refl
one_item (x ∷ y ∷ xs) d some few = absurd (omega (arith, few))

-- the list of the only type has the objects that a variable may stand for
pub list_of_only : (parts : TaskParts) (lists : List (List ℕ)) (types : List ℕ) (number : ℕ) (list : List ℕ) → AreLists parts lists → 1 ≤ length types → length types < 2 → number ≡ get_or types 0 0
    → slice_get lists number ≡ Some list → list ≡ objects_of parts types
list_of_only parts lists types number list are some few first found =
    are number list found ∙ ap (λ n. objects_of parts (n ∷ [])) first ∙ ap (objects_of parts) (sym (one_item types 0 some few))

-- what is true of each item by its index, and of one more at the end
pub at_end : {X : Type 0} (P : ℕ → X → Type 0) (xs : List X) (y : X) → ((n : ℕ) (x : X) → slice_get xs n ≡ Some x → P n x) → P (length xs) y
    → (n : ℕ) (x : X) → slice_get (xs ++ y ∷ []) n ≡ Some x → P n x
at_end P [] y h k zero x at = let same : y ≡ x = cc in subst (P 0) same k
at_end P [] y h k (suc n) x at = cc
at_end P (z ∷ xs) y h k zero x at = h zero x at
at_end P (z ∷ xs) y h k (suc n) x at = at_end (λ m. P (suc m)) xs y (λ m w e. h (suc m) w e) k n x at

module _ {X : Type 0} (p : X → Bool) where
  -- those that pass a test all pass it again
  pub filter_again : (xs : List X) → filter p (filter p xs) ≡ filter p xs
  filter_again [] = refl
  filter_again (x ∷ xs) = by (p x) refl (filter_again xs)
    where
      by : (b : Bool) → p x ≡ b → filter p (filter p xs) ≡ filter p xs → filter p (cond b (x ∷ filter p xs) (filter p xs)) ≡ cond b (x ∷ filter p xs) (filter p xs)
      by true e rest = ap (λ b. cond b (x ∷ filter p (filter p xs)) (filter p (filter p xs))) e ∙ ap (λ l. x ∷ l) rest
      by false e rest = rest
