-- A search through a list that looks at one item after the other: the item that passes ends it, and another leaves the rest.

use Rattle.std.proofs.Common.{◌≡◌, ℕ, ◌+◌, ◌<◌, Bool, true, false, cond, ◌||◌, List, ◌∷◌, Some, length, drop, get_or, ap, sym, ◌∙◌, add-one, drop-cons}
use Rattle.std.specs.List.{position_from, list_any}

module _ {A : Type 0} where
  -- what is left begins with the item at this index
  pub left : (xs : List A) (i : ℕ) (x : A) → i < length xs → x ≡ get_or xs i x → drop i xs ≡ x ∷ drop (i + 1) xs
  left xs i x lt is = drop-cons xs i x lt ∙ (λ j. sym is j ∷ drop (sym (add-one i) j) xs)

  module _ (p : A → Bool) (xs : List A) (i : ℕ) (x : A) (lt : i < length xs) (is : x ≡ get_or xs i x) where
    pub any_here : p x ≡ true → list_any p (drop i xs) ≡ true
    any_here h = ap (list_any p) (left xs i x lt is) ∙ ap (λ b. b || list_any p (drop (i + 1) xs)) h

    pub any_later : p x ≡ false → list_any p (drop i xs) ≡ list_any p (drop (i + 1) xs)
    any_later h = ap (list_any p) (left xs i x lt is) ∙ ap (λ b. b || list_any p (drop (i + 1) xs)) h

    pub index_here : (k : ℕ) → p x ≡ true → position_from p k (drop i xs) ≡ Some k
    index_here k h = ap (position_from p k) (left xs i x lt is) ∙ ap (λ b. cond b (Some k) (position_from p (k + 1) (drop (i + 1) xs))) h

    pub index_later : (k : ℕ) → p x ≡ false → position_from p k (drop i xs) ≡ position_from p (k + 1) (drop (i + 1) xs)
    index_later k h = ap (position_from p k) (left xs i x lt is) ∙ ap (λ b. cond b (Some k) (position_from p (k + 1) (drop (i + 1) xs))) h
