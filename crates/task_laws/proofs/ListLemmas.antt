-- Lists whose items are replaced, and what is left of them.

use Rattle.std.proofs.Common.{◌≡◌, ℕ, zero, suc, Bool, true, false, cond, not, ◌||◌, ◌&&◌, List, [], ◌∷◌, Some, All, Decides, filter, map, slice_get, refl, ap, sym, ◌∙◌, subst}
use Rattle.std.proofs.Math.Bool.{not-not}
use Rattle.std.proofs.lemmas.List.Elements.{All-head, All-tail}
use Rattle.std.proofs.lemmas.List.Folds.{list_all-append}
use Rattle.std.specs.List.{flat_map, list_all, list_any}
use Rattle.std.specs.Map.{values_of}
use Rattle.strips_task.specs.FirstOccurrences.{first_occurrences}
use Rattle.strips_task.proofs.AtomEquality.{both_hold}

-- the values of a table are replaced one by one
pub values_of-map : {K V : Type 0} (f : V → V) (entries : List (K × V)) → values_of (map (λ entry. (entry.0, f entry.1)) entries) ≡ map f (values_of entries)
values_of-map f [] = refl
values_of-map f (entry ∷ entries) = ap (λ values. f entry.1 ∷ values) (values_of-map f entries)

module _ {A B : Type 0} where
  -- items that pass a test pass another once they are replaced
  pub list_all-replaced : (p : A → Bool) (q : B → Bool) (f : A → B) → ((x : A) → p x ≡ true → q (f x) ≡ true) → (xs : List A) → list_all p xs ≡ true → list_all q (map f xs) ≡ true
  list_all-replaced p q f passes [] all = refl
  list_all-replaced p q f passes (x ∷ xs) all = let both = both_hold (p x) (list_all p xs) all in λ j. passes x both.0 j && list_all-replaced p q f passes xs both.1 j

  -- what comes of items that pass a test passes another
  pub list_all-flat_map : (p : A → Bool) (q : B → Bool) (f : A → List B) → ((x : A) → p x ≡ true → list_all q (f x) ≡ true) → (xs : List A) → list_all p xs ≡ true → list_all q (flat_map f xs) ≡ true
  list_all-flat_map p q f passes [] all = refl
  list_all-flat_map p q f passes (x ∷ xs) all =
      let both = both_hold (p x) (list_all p xs) all in
      list_all-append q (f x) (flat_map f xs) ∙ (λ j. passes x both.0 j && list_all-flat_map p q f passes xs both.1 j)

  pub list_any-map : (test : B → Bool) (f : A → B) (xs : List A) → list_any test (map f xs) ≡ list_any (λ x. test (f x)) xs
  list_any-map test f [] = refl
  list_any-map test f (x ∷ xs) = ap (λ others. test (f x) || others) (list_any-map test f xs)

  map-cond : (f : A → B) (b : Bool) (x : A) (xs : List A) → map f (cond b (x ∷ xs) xs) ≡ cond b (f x ∷ map f xs) (map f xs)
  map-cond f true x xs = refl
  map-cond f false x xs = refl

  -- items that are replaced are kept as they were before
  pub filter-map : (test : B → Bool) (before : A → Bool) (f : A → B) → ((x : A) → test (f x) ≡ before x) → (xs : List A) → filter test (map f xs) ≡ map f (filter before xs)
  filter-map test before f same [] = refl
  filter-map test before f same (x ∷ xs) =
      (λ j. cond (same x j) (f x ∷ filter-map test before f same xs j) (filter-map test before f same xs j)) ∙ sym (map-cond f (before x) x (filter before xs))

module _ {A : Type 0} where
  -- what is true of all items is true of the one at an index
  pub all_at : (P : A → Type 0) (xs : List A) (index : ℕ) (x : A) → All P xs → slice_get xs index ≡ Some x → P x
  all_at P [] index x all at = cc
  all_at P (first ∷ xs) zero x all at = let same : first ≡ x = cc in subst P same (All-head P first xs all)
  all_at P (first ∷ xs) (suc index) x all at = all_at P xs index x (All-tail P first xs all) at

  -- two tests in either order
  filters_commute : (p q : A → Bool) (xs : List A) → filter p (filter q xs) ≡ filter q (filter p xs)
  filters_commute p q [] = refl
  filters_commute p q (x ∷ xs) = by (p x) (q x) refl refl (filters_commute p q xs)
    where
      kept : (r s : A → Bool) → List A
      kept r s = filter r (filter s xs)

      by : (a b : Bool) → p x ≡ a → q x ≡ b → kept p q ≡ kept q p → filter p (cond b (x ∷ filter q xs) (filter q xs)) ≡ filter q (cond a (x ∷ filter p xs) (filter p xs))
      by true true e g rest = ap (λ c. cond c (x ∷ kept p q) (kept p q)) e ∙ ap (λ l. x ∷ l) rest ∙ sym (ap (λ c. cond c (x ∷ kept q p) (kept q p)) g)
      by true false e g rest = rest ∙ sym (ap (λ c. cond c (x ∷ kept q p) (kept q p)) g)
      by false true e g rest = ap (λ c. cond c (x ∷ kept p q) (kept p q)) e ∙ rest
      by false false e g rest = rest

  -- a test that drops all that another drops needs no other
  filter-stronger : (p q : A → Bool) → ((x : A) → q x ≡ false → p x ≡ false) → (xs : List A) → filter p (filter q xs) ≡ filter p xs
  filter-stronger p q drops [] = refl
  filter-stronger p q drops (x ∷ xs) = by (q x) refl (filter-stronger p q drops xs)
    where
      by : (b : Bool) → q x ≡ b → filter p (filter q xs) ≡ filter p xs → filter p (cond b (x ∷ filter q xs) (filter q xs)) ≡ cond (p x) (x ∷ filter p xs) (filter p xs)
      by true e rest = λ j. cond (p x) (x ∷ rest j) (rest j)
      by false e rest = rest ∙ sym (ap (λ c. cond c (x ∷ filter p xs) (filter p xs)) (drops x e))

module _ {A : Type 0} (eq : A → A → Bool) (decides : (a b : A) → Decides (eq a b) (a ≡ b)) where
  abbrev is_other : A → A → Bool
  is_other x = λ y. not (eq x y)

  -- an item that is no other one is the same
  same_item : (x y : A) → is_other x y ≡ false → x ≡ y
  same_item x y e = (decides x y).0 (sym (not-not (eq x y)) ∙ ap not e)

  -- a test before or after
  first_occurrences-filter : (p : A → Bool) (xs : List A) → filter p (first_occurrences eq xs) ≡ first_occurrences eq (filter p xs)
  unfolding first_occurrences
  first_occurrences-filter p [] = refl
  first_occurrences-filter p (x ∷ xs) = by (p x) refl (first_occurrences-filter p xs)
    where
      by : (b : Bool) → p x ≡ b → filter p (first_occurrences eq xs) ≡ first_occurrences eq (filter p xs)
          → cond b (x ∷ filter p (filter (is_other x) (first_occurrences eq xs))) (filter p (filter (is_other x) (first_occurrences eq xs)))
          ≡ first_occurrences eq (cond b (x ∷ filter p xs) (filter p xs))
      by true e rest = ap (λ l. x ∷ l) (filters_commute p (is_other x) (first_occurrences eq xs) ∙ ap (filter (is_other x)) rest)
      by false e rest = filter-stronger p (is_other x) (λ y same. ap p (sym (same_item x y same)) ∙ e) (first_occurrences eq xs) ∙ rest

  -- items that occur a second time may be dropped before the items are replaced
  pub first_occurrences-map : (f : A → A) (xs : List A) → first_occurrences eq (map f (first_occurrences eq xs)) ≡ first_occurrences eq (map f xs)
  unfolding first_occurrences
  first_occurrences-map f [] = refl
  first_occurrences-map f (x ∷ xs) =
      ap (λ l. f x ∷ l)
      (first_occurrences-filter others (map f (filter (is_other x) once)) ∙ ap (first_occurrences eq) dropped ∙ sym (first_occurrences-filter others (map f once))
      ∙ ap (filter others) (first_occurrences-map f xs))
    where
      once : List A
      once = first_occurrences eq xs

      others : A → Bool
      others = is_other (f x)

      dropped : filter others (map f (filter (is_other x) once)) ≡ filter others (map f once)
      dropped =
          filter-map others (λ y. others (f y)) f (λ y. refl) (filter (is_other x) once)
          ∙ ap (map f) (filter-stronger (λ y. others (f y)) (is_other x) (λ y same. ap not ((decides (f x) (f y)).1 (ap f (same_item x y same)))) once)
          ∙ sym (filter-map others (λ y. others (f y)) f (λ y. refl) once)
