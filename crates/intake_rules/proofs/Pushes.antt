-- Lists with one element more at the end.

use Rattle.std.proofs.Common.{◌≡◌, ◌⊎◌, ℕ, ◌<◌, ◌≤◌, zero, suc, Bool, ◌||◌, true, false, List, [], ◌∷◌, ◌++◌, Option, Some, None, length, slice_get, take, filter, refl, ap, sym, ◌∙◌, arith, subst, inl, inr, cond}
use Rattle.std.specs.List.{filter_map, list_any, cons_option}
use Rattle.std.proofs.lemmas.List.{append-nil, append_assoc, take-append-le, take_all}
use Rattle.std.proofs.lemmas.List.Elements.{filter_map-append, filter-append}

or_false : (b : Bool) → (b || false) ≡ b
or_false true = refl
or_false false = refl

or_assoc : (a b c : Bool) → (a || (b || c)) ≡ ((a || b) || c)
or_assoc true b c = refl
or_assoc false b c = refl

-- what holds of no elements, and of one more wherever it holds of those before, holds of all lists
pub by_pushes : {A : Type 0} (Q : List A → Type 0) → Q [] → ((xs : List A) (x : A) → Q xs → Q (xs ++ x ∷ [])) → (xs : List A) → Q xs
by_pushes {A} Q none more xs = go [] xs none
  where
    go : (done rest : List A) → Q done → Q (done ++ rest)
    go done [] q = subst Q (sym (append-nil done)) q
    go done (x ∷ rest) q = subst Q (append_assoc done (x ∷ []) rest) (go (done ++ x ∷ []) rest (more done x q))

module _ {A : Type 0} where
  pub slice_get_before : (xs : List A) (x : A) (i : ℕ) → i < length xs → slice_get (xs ++ x ∷ []) i ≡ slice_get xs i
  slice_get_before [] x i h = absurd (omega arith)
  slice_get_before (y ∷ ys) x zero h = refl
  slice_get_before (y ∷ ys) x (suc i) h = slice_get_before ys x i (omega arith)

  pub slice_get_last : (xs : List A) (x : A) → slice_get (xs ++ x ∷ []) (length xs) ≡ Some x
  slice_get_last [] x = refl
  slice_get_last (y ∷ ys) x = slice_get_last ys x

  -- an element of the longer list is one of the shorter, or the last
  pub slice_get_cases : (xs : List A) (x y : A) (i : ℕ) → slice_get (xs ++ x ∷ []) i ≡ Some y
      → ((i < length xs) × (slice_get xs i ≡ Some y)) ⊎ ((i ≡ length xs) × (x ≡ y))
  slice_get_cases [] x y zero e = inr (refl, cc)
  slice_get_cases [] x y (suc i) e = cc
  slice_get_cases (z ∷ zs) x y zero e = inl (omega arith, e)
  slice_get_cases (z ∷ zs) x y (suc i) e = elim (slice_get_cases zs x y i e) [
    | inl h ↦ inl (omega (arith, h.0), h.1)
    | inr h ↦ inr (ap suc h.0, h.1)
  ]

  -- an element that stood in the shorter list stands in the longer
  pub slice_get_kept : (xs : List A) (x y : A) (i : ℕ) → slice_get xs i ≡ Some y → slice_get (xs ++ x ∷ []) i ≡ Some y
  slice_get_kept [] x y i e = cc
  slice_get_kept (z ∷ zs) x y zero e = e
  slice_get_kept (z ∷ zs) x y (suc i) e = slice_get_kept zs x y i e

  pub take_before : (xs : List A) (x : A) (i : ℕ) → i ≤ length xs → take i (xs ++ x ∷ []) ≡ take i xs
  take_before xs x i h = take-append-le i xs (x ∷ []) h

  pub take_last : (xs : List A) (x : A) → take (length xs) (xs ++ x ∷ []) ≡ xs
  take_last xs x = take-append-le (length xs) xs (x ∷ []) (omega arith) ∙ take_all (length xs) xs (omega arith)

  pub filter_drops : (p : A → Bool) (xs : List A) (x : A) → p x ≡ false → filter p (xs ++ x ∷ []) ≡ filter p xs
  filter_drops p xs x e = filter-append p xs (x ∷ []) ∙ ap (λ b. filter p xs ++ cond b (x ∷ []) []) e ∙ append-nil (filter p xs)

  pub filter_keeps : (p : A → Bool) (xs : List A) (x : A) → p x ≡ true → filter p (xs ++ x ∷ []) ≡ filter p xs ++ x ∷ []
  filter_keeps p xs x e = filter-append p xs (x ∷ []) ∙ ap (λ b. filter p xs ++ cond b (x ∷ []) []) e

  pub any_last : (p : A → Bool) (xs : List A) (x : A) → list_any p (xs ++ x ∷ []) ≡ (list_any p xs || p x)
  any_last p [] x = or_false (p x)
  any_last p (y ∷ ys) x = ap (λ b. p y || b) (any_last p ys x) ∙ or_assoc (p y) (list_any p ys) (p x)

  pub filter_map_drops : {B : Type 0} (f : A → Option B) (xs : List A) (x : A) → f x ≡ None → filter_map f (xs ++ x ∷ []) ≡ filter_map f xs
  filter_map_drops f xs x e = filter_map-append f xs (x ∷ []) ∙ ap (λ o. filter_map f xs ++ cons_option o []) e ∙ append-nil (filter_map f xs)

  pub filter_map_keeps : {B : Type 0} (f : A → Option B) (xs : List A) (x : A) (y : B) → f x ≡ Some y → filter_map f (xs ++ x ∷ []) ≡ filter_map f xs ++ y ∷ []
  filter_map_keeps f xs x y e = filter_map-append f xs (x ∷ []) ∙ ap (λ o. filter_map f xs ++ cons_option o []) e
