-- Sums of amounts, as a loop meets them: what was added up so far, and the amounts that are left.

use Rattle.std.proofs.Common.{◌≡◌, ℕ, zero, suc, ◌+◌, ◌<◌, arith, Contains, sum, List, [], ◌∷◌, ◌++◌, Option, Some, None, length, map, drop, get_or, refl, ap, sym, ◌∙◌, zero-add, add_assoc}
use Rattle.std.proofs.lemmas.List.Sums.{sum_by-cons}
use Rattle.std.specs.List.{flat_map}
use Rattle.strips_judge.proofs.Searches.{left}
use Rattle.plan_cost.specs.Costs.{added, sum_of}

added-nothing : (amount : Option ℕ) → added (Some 0) amount ≡ amount
added-nothing (Some amount) = ap Some (zero-add amount)
added-nothing None = refl

added_assoc : (a b c : Option ℕ) → added a (added b c) ≡ added (added a b) c
added_assoc (Some a) (Some b) (Some c) = ap Some (sym (add_assoc a b c))
added_assoc (Some a) (Some b) None = refl
added_assoc (Some a) None c = refl
added_assoc None b c = refl

-- two lists of amounts come to the sum of their sums
pub sum_of-append : (first others : List (Option ℕ)) → sum_of (first ++ others) ≡ added (sum_of first) (sum_of others)
sum_of-append [] others = sym (added-nothing (sum_of others))
sum_of-append (amount ∷ amounts) others = ap (added amount) (sum_of-append amounts others) ∙ added_assoc amount (sum_of amounts) (sum_of others)

-- many lists of amounts come to the sum of their sums
pub sum_of-flat_map : {X : Type 0} (f : X → List (Option ℕ)) (xs : List X) → sum_of (flat_map f xs) ≡ sum_of (map (λ x. sum_of (f x)) xs)
sum_of-flat_map f [] = refl
sum_of-flat_map f (x ∷ xs) = sum_of-append (f x) (flat_map f xs) ∙ ap (added (sum_of (f x))) (sum_of-flat_map f xs)

-- defined amounts come to their sum
pub sum_of-defined : (amounts : List ℕ) → sum_of (map Some amounts) ≡ Some (sum amounts)
sum_of-defined [] = refl
sum_of-defined (amount ∷ amounts) = ap (added (Some amount)) (sum_of-defined amounts) ∙ ap Some (sym (sum_by-cons (λ x. x) amount amounts))

-- an undefined amount makes the sum undefined
pub undefined_by_one : (amounts : List (Option ℕ)) → Contains amounts None → sum_of amounts ≡ None
undefined_by_one [] (k, lt, is) = absurd (omega arith)
undefined_by_one (None ∷ amounts) at = refl
undefined_by_one (Some amount ∷ amounts) (zero, lt, is) = let no : Some amount ≡ None = is in cc
undefined_by_one (Some amount ∷ amounts) (suc k, lt, is) = ap (added (Some amount)) (undefined_by_one amounts (k, omega arith, is))

-- a sum with a defined amount is undefined by the other
pub undefined_rest : (amount : ℕ) (rest : Option ℕ) → added (Some amount) rest ≡ None → rest ≡ None
undefined_rest amount (Some other) e = let no : Some (amount + other) ≡ None = e in cc
undefined_rest amount None e = refl

-- where the sum is undefined, one of the amounts is
pub one_is_undefined : (amounts : List (Option ℕ)) → sum_of amounts ≡ None → Contains amounts None
one_is_undefined [] e = let no : ◌≡◌ {A = Option ℕ} (Some 0) None = e in cc
one_is_undefined (None ∷ amounts) e = (0, omega arith, refl)
one_is_undefined (Some amount ∷ amounts) e =
    let found = one_is_undefined amounts (undefined_rest amount (sum_of amounts) e) in (suc (found.0), omega (arith, found.1), found.2)

-- all amounts come to what was added up, and those of the items that are left
pub record IsSummed {X : Type 0} (f : X → Option ℕ) (all : Option ℕ) (sum : ℕ) (xs : List X) (index : ℕ) : Type 0 where
  pub rest : all ≡ added (Some sum) (sum_of (map f (drop index xs)))

module _ {X : Type 0} (f : X → Option ℕ) where
  module _ (all : Option ℕ) (sum : ℕ) (xs : List X) (index : ℕ) (summed : IsSummed f all sum xs index) where
    module _ (x : X) (lt : index < length xs) (is : x ≡ get_or xs index x) where
      split : all ≡ added (Some sum) (added (f x) (sum_of (map f (drop (index + 1) xs))))
      split = summed.rest ∙ ap (λ l. added (Some sum) (sum_of (map f l))) (left xs index x lt is)

      -- an undefined amount makes all undefined
      pub undefined_here : None ≡ f x → all ≡ None
      undefined_here none = split ∙ ap (λ a. added (Some sum) (added a (sum_of (map f (drop (index + 1) xs))))) (sym none)

      -- another one is added
      pub summed_more : (amount : ℕ) → Some amount ≡ f x → IsSummed f all (sum + amount) xs (index + 1)
      summed_more amount some = record {
        rest = split
            ∙ ap (λ a. added (Some sum) (added a (sum_of (map f (drop (index + 1) xs))))) (sym some)
            ∙ added_assoc (Some sum) (Some amount) (sum_of (map f (drop (index + 1) xs)));
      }

-- and so they are behind a first amount
pub summed_first : {X : Type 0} (f : X → List (Option ℕ)) (first sum : ℕ) (xs : List X) → sum ≡ first → IsSummed (λ x. sum_of (f x)) (sum_of (Some first ∷ flat_map f xs)) sum xs 0
summed_first f first sum xs is = record { rest = ap (added (Some first)) (sum_of-flat_map f xs) ∙ ap (λ n. added (Some n) (sum_of (map (λ x. sum_of (f x)) xs))) (sym is) }
