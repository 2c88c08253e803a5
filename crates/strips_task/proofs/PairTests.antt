-- Two lists that are compared item by item.

use Rattle.std.proofs.Common.{◌≡◌, ℕ, ◌+◌, ◌<◌, Bool, true, false, not, ◌&&◌, refl, List, ◌∷◌, length, drop, get_or, sym, ◌∙◌, add-one, drop-cons}
use Rattle.std.specs.Cmp.Lexicographic.{pointwise}

module _ {A : Type 0} (E : A → A → Bool) (xs ys : List A) (i : ℕ) (x y : A) where
  -- at an index the items decide, and then what is behind them
  pub pairs_here : i < length xs → i < length ys → get_or xs i x ≡ x → get_or ys i y ≡ y
      → pointwise E (drop i xs) (drop i ys) ≡ (E x y && pointwise E (drop (i + 1) xs) (drop (i + 1) ys))
  pairs_here in_xs in_ys is_x is_y =
      (λ j. pointwise E ((drop-cons xs i x in_xs ∙ (λ k. is_x k ∷ drop (sym (add-one i) k) xs)) j) ((drop-cons ys i y in_ys ∙ (λ k. is_y k ∷ drop (sym (add-one i) k) ys)) j))

-- what a test for a difference says of the test for equality
pub unequal : (b r : Bool) → r ≡ not b → r ≡ true → b ≡ false
unequal true r e h = cc
unequal false r e h = refl

pub equal : (b r : Bool) → r ≡ not b → r ≡ false → b ≡ true
equal true r e h = refl
equal false r e h = cc
