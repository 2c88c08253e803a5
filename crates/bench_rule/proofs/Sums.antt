-- Sums over the views of a bench, of which one changes.

use Rattle.std.proofs.Common.{◌≡◌, ◌≢◌, ◌≤◌, ◌<◌, ℕ, zero, suc, ◌+◌, List, [], ◌∷◌, ◌++◌, length, set, sym, refl, ap, arith}
use mathlib.Core.Option.{some, some-injective, some-ne-none}
use lib.ListN.{get_elem?}
use Rattle.bench_rule.specs.Views.{total}

module _ {A : Type 0} where
  pub total-set : (f : A → ℕ) (xs : List A) (i : ℕ) (old new : A) → get_elem? xs i ≡ some old → total f (set xs i new) + f old ≡ total f xs + f new
  total-set f [] i old new e = absurd (some-ne-none old (sym e))
  total-set f (x ∷ xs) zero old new e = omega (arith, ap f (some-injective x old e))
  total-set f (x ∷ xs) (suc i) old new e = omega (arith, total-set f xs i old new e)

  pub total-push : (f : A → ℕ) (xs : List A) (x : A) → total f (xs ++ x ∷ []) ≡ total f xs + f x
  total-push f [] x = omega arith
  total-push f (y ∷ ys) x = omega (arith, total-push f ys x)

  pub term_le : (f : A → ℕ) (xs : List A) (i : ℕ) (x : A) → get_elem? xs i ≡ some x → f x ≤ total f xs
  term_le f [] i x e = absurd (some-ne-none x (sym e))
  term_le f (y ∷ ys) zero x e = omega (arith, ap f (some-injective y x e))
  term_le f (y ∷ ys) (suc i) x e = omega (arith, term_le f ys i x e)

  pub two_terms_le : (f : A → ℕ) (xs : List A) (i j : ℕ) (x y : A) → i ≢ j → get_elem? xs i ≡ some x → get_elem? xs j ≡ some y → f x + f y ≤ total f xs
  two_terms_le f [] i j x y apart e₁ e₂ = absurd (some-ne-none x (sym e₁))
  two_terms_le f (z ∷ zs) zero zero x y apart e₁ e₂ = absurd (apart refl)
  two_terms_le f (z ∷ zs) zero (suc j) x y apart e₁ e₂ = omega (arith, ap f (some-injective z x e₁), term_le f zs j y e₂)
  two_terms_le f (z ∷ zs) (suc i) zero x y apart e₁ e₂ = omega (arith, ap f (some-injective z y e₂), term_le f zs i x e₁)
  two_terms_le f (z ∷ zs) (suc i) (suc j) x y apart e₁ e₂ = omega (arith, two_terms_le f zs i j x y (λ e. apart (ap suc e)) e₁ e₂)

  -- where a sum is not 0, one of its terms is not
  pub some_term : (f : A → ℕ) (xs : List A) → 0 < total f xs → (i : ℕ) × (x : A) × (get_elem? xs i ≡ some x) × (0 < f x)
  some_term f [] h = absurd (omega arith)
  some_term f (x ∷ xs) h = at (f x) refl (λ more. some_term f xs more)
    where
      at : (n : ℕ) → f x ≡ n → (0 < total f xs → (i : ℕ) × (y : A) × (get_elem? xs i ≡ some y) × (0 < f y)) → (i : ℕ) × (y : A) × (get_elem? (x ∷ xs) i ≡ some y) × (0 < f y)
      at zero e rest = let (i, y, there, more) = rest (omega arith) in (suc i, y, there, more)
      at (suc n) e rest = (zero, x, refl, omega arith)

  pub none_at_all : (f : A → ℕ) (xs : List A) → ((i : ℕ) (x : A) → get_elem? xs i ≡ some x → f x ≡ 0) → total f xs ≡ 0
  none_at_all f [] none = refl
  none_at_all f (x ∷ xs) none = let here = none 0 x refl in let rest = none_at_all f xs (λ i y e. none (suc i) y e) in omega arith

  -- where all terms but the first are 0, the sum is the first
  pub first_alone : (f : A → ℕ) (xs : List A) (x : A) → get_elem? xs 0 ≡ some x → ((i : ℕ) (y : A) → i ≢ 0 → get_elem? xs i ≡ some y → f y ≡ 0) → total f xs ≡ f x
  first_alone f [] x e none = absurd (some-ne-none x (sym e))
  first_alone f (y ∷ ys) x e none = let rest = none_at_all f ys (λ i z at. none (suc i) z (λ h. omega arith) at) in let here = ap f (some-injective y x e) in omega arith

  pub within : (xs : List A) (i : ℕ) (x : A) → get_elem? xs i ≡ some x → i < length xs
  within [] i x e = absurd (some-ne-none x (sym e))
  within (y ∷ ys) zero x e = omega arith
  within (y ∷ ys) (suc i) x e = omega (arith, within ys i x e)
