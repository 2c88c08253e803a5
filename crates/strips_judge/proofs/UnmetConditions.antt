-- What is missing is exactly what does not hold, each condition once.

use Rattle.std.proofs.Common.{◌≡◌, Bool, true, false, cond, not, ◌&&◌, ◌||◌, List, [], ◌∷◌, filter, refl, ap, sym, ◌∙◌, subst, true≢false}
use Rattle.std.specs.Prelude.{◌≢◌}
use Rattle.std.specs.List.{list_any}
use Rattle.std.proofs.lemmas.Map.Views.{any-filter_same}
use Rattle.formulas.specs.Equality.{tree_eq}
use Rattle.formulas.specs.EqualityLaws.{tree_decides, tree_equivalence}
use Rattle.formulas.specs.Tree.{Tree}
use Rattle.strips_task.specs.declared.tasks.TaskParts.{TaskParts}
use Rattle.strips_task.specs.FirstOccurrences.{first_occurrences}
use Rattle.strips_judge.specs.State.{State, holds}
use Rattle.strips_judge.specs.Step.{missing}
use Rattle.strips_judge.specs.Reasons.{IsEachOnce, AreUnmet}

same_tree : (a b : Tree) → tree_eq a b ≡ true → a ≡ b
same_tree a b e = (tree_decides a b).0 e

and_false : (b : Bool) → (b && false) ≡ false
and_false true = refl
and_false false = refl

module _ (parts : TaskParts) (state : State) where
  -- a condition is kept exactly where it is there and does not hold
  any_unmet : (c : Tree) (conds : List Tree) → list_any (tree_eq c) (filter (λ x. not (holds parts state [] x)) conds) ≡ (list_any (tree_eq c) conds && not (holds parts state [] c))
  any_unmet c [] = refl
  any_unmet c (x ∷ xs) = by (tree_eq c x) (holds parts state [] x) refl refl (any_unmet c xs)
    where
      kept : List Tree
      kept = filter (λ y. not (holds parts state [] y)) xs

      by : (same h : Bool) → tree_eq c x ≡ same → holds parts state [] x ≡ h → list_any (tree_eq c) kept ≡ (list_any (tree_eq c) xs && not (holds parts state [] c))
          → list_any (tree_eq c) (cond (not h) (x ∷ kept) kept) ≡ ((same || list_any (tree_eq c) xs) && not (holds parts state [] c))
      by true true e f rest =
          let held : holds parts state [] c ≡ true = ap (holds parts state []) (same_tree c x e) ∙ f in
          rest ∙ ap (λ b. list_any (tree_eq c) xs && not b) held ∙ and_false (list_any (tree_eq c) xs) ∙ sym (ap not held)
      by true false e f rest =
          let fails : holds parts state [] c ≡ false = ap (holds parts state []) (same_tree c x e) ∙ f in
          ap (λ b. b || list_any (tree_eq c) kept) e ∙ sym (ap not fails)
      by false true e f rest = rest
      by false false e f rest = ap (λ b. b || list_any (tree_eq c) kept) e ∙ rest

-- a condition is among the first occurrences exactly where it is in the list
any_first : (c : Tree) (conds : List Tree) → list_any (tree_eq c) (first_occurrences tree_eq conds) ≡ list_any (tree_eq c) conds
unfolding first_occurrences
any_first c [] = refl
any_first c (x ∷ xs) = by (tree_eq c x) refl (any_first c xs)
  where
    by : (b : Bool) → tree_eq c x ≡ b → list_any (tree_eq c) (first_occurrences tree_eq xs) ≡ list_any (tree_eq c) xs
        → (b || list_any (tree_eq c) (filter (λ y. not (tree_eq x y)) (first_occurrences tree_eq xs))) ≡ (b || list_any (tree_eq c) xs)
    by true e rest = refl
    by false e rest =
        any-filter_same (tree_eq c) (λ y. not (tree_eq x y)) true
        (λ y same. ap not (ap (tree_eq x) (sym (same_tree c y same)) ∙ tree_equivalence.symm x c ∙ e)) (first_occurrences tree_eq xs)
        ∙ rest

-- what is not in a list is in no part of it
none_in_part : (test keep : Tree → Bool) (conds : List Tree) → list_any test conds ≡ false → list_any test (filter keep conds) ≡ false
none_in_part test keep [] e = refl
none_in_part test keep (x ∷ xs) e = by (test x) (keep x) refl (none_in_part test keep xs)
  where
    by : (b k : Bool) → test x ≡ b → (list_any test xs ≡ false → list_any test (filter keep xs) ≡ false) → list_any test (cond k (x ∷ filter keep xs) (filter keep xs)) ≡ false
    by true k f rest = absurd (true≢false (sym (ap (λ b. b || list_any test xs) f) ∙ e))
    by false true f rest = ap (λ b. b || list_any test (filter keep xs)) f ∙ rest (sym (ap (λ b. b || list_any test xs) f) ∙ e)
    by false false f rest = rest (sym (ap (λ b. b || list_any test xs) f) ∙ e)

-- a part of a list has each condition once where the list has
once_in_part : (keep : Tree → Bool) (conds : List Tree) → IsEachOnce conds → IsEachOnce (filter keep conds)
once_in_part keep [] once = once
once_in_part keep (x ∷ xs) once = by (keep x) (once_in_part keep xs once.1)
  where
    by : (k : Bool) → IsEachOnce (filter keep xs) → IsEachOnce (cond k (x ∷ filter keep xs) (filter keep xs))
    by true rest = (none_in_part (tree_eq x) keep xs once.0, rest)
    by false rest = rest

-- without what is equal to it, a condition is not there
none_equal : (x : Tree) (conds : List Tree) → list_any (tree_eq x) (filter (λ y. not (tree_eq x y)) conds) ≡ false
none_equal x [] = refl
none_equal x (y ∷ ys) = by (tree_eq x y) refl (none_equal x ys)
  where
    others : List Tree
    others = filter (λ z. not (tree_eq x z)) ys

    by : (b : Bool) → tree_eq x y ≡ b → list_any (tree_eq x) others ≡ false → list_any (tree_eq x) (cond (not b) (y ∷ others) others) ≡ false
    by true e rest = rest
    by false e rest = ap (λ b. b || list_any (tree_eq x) others) e ∙ rest

first_once : (conds : List Tree) → IsEachOnce (first_occurrences tree_eq conds)
unfolding first_occurrences
first_once [] = tt
first_once (x ∷ xs) = (none_equal x (first_occurrences tree_eq xs), once_in_part (λ y. not (tree_eq x y)) (first_occurrences tree_eq xs) (first_once xs))

-- what is missing is what is unmet
pub are_unmet : (parts : TaskParts) (state : State) (conds unmet : List Tree) → missing parts state conds ≡ unmet → unmet ≢ [] → AreUnmet parts state conds unmet
are_unmet parts state conds unmet e some = subst (λ l. l ≢ [] → AreUnmet parts state conds l) e by some
  where
    by : missing parts state conds ≢ [] → AreUnmet parts state conds (missing parts state conds)
    by other = record {
      some = other;
      exactly = λ c. any_first c (filter (λ x. not (holds parts state [] x)) conds) ∙ any_unmet parts state c conds;
      each_once = first_once (filter (λ x. not (holds parts state [] x)) conds);
    }
