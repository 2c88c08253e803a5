-- Comparing two lists, one pair of items after the other.

use Rattle.std.proofs.Common.{◌≡◌, ℕ, ◌+◌, ◌<◌, Bool, ◌&&◌, List, ◌∷◌, length, drop, get_or, sym, ◌∙◌, add-one, drop-cons}
use Rattle.std.specs.Cmp.Lexicographic.{pointwise}

module _ {A : Type 0} (E : A → A → Bool) (xs ys : List A) (i : ℕ) (x y : A) where
  -- from an index on, the items there are compared, and then those after them
  pub pair_and_rest : i < length xs → i < length ys → x ≡ get_or xs i x → y ≡ get_or ys i y
      → pointwise E (drop i xs) (drop i ys) ≡ (E x y && pointwise E (drop (i + 1) xs) (drop (i + 1) ys))
  pair_and_rest in_xs in_ys is_x is_y =
      let left = drop-cons xs i x in_xs ∙ (λ k. sym is_x k ∷ drop (sym (add-one i) k) xs) in
      let right = drop-cons ys i y in_ys ∙ (λ k. sym is_y k ∷ drop (sym (add-one i) k) ys) in
      λ j. pointwise E (left j) (right j)
