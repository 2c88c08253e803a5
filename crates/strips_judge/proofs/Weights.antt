-- How much there is to evaluate in a formula. Each call of the evaluator is about less.

use Rattle.std.proofs.Common.{◌≡◌, ℕ, ◌+◌, ◌*◌, ◌<◌, ◌≤◌, max, List, [], ◌∷◌, length, get_or, zero, suc, arith, ap}
use Rattle.formulas.specs.Tree.{Tree, atom, equality, negation, conjunction, disjunction, implication, exists, for_all, Parts, no_parts, part, parts_of}
use Rattle.formulas.specs.Variables.{variable_types}

-- four calls for each variable of a quantifier, and two or three around the parts of every formula
abbrev mutual
  pub weight : Tree → ℕ
  weight (atom positive pattern) = 0
  weight (equality positive left right) = 0
  weight (negation tree) = weight tree + 2
  weight (conjunction parts) = most_weight parts + 2
  weight (disjunction parts) = most_weight parts + 2
  weight (implication premise conclusion) = max (weight premise) (weight conclusion) + 2
  weight (exists groups body) = weight body + 4 * length (variable_types groups) + 3
  weight (for_all groups body) = weight body + 4 * length (variable_types groups) + 3

  pub most_weight : Parts → ℕ
  most_weight no_parts = 0
  most_weight (part tree parts) = max (weight tree) (most_weight parts)

-- no formula of a list weighs more than the heaviest
pub weighs_less : (trees : List Tree) (index : ℕ) (tree : Tree) → index < length trees → tree ≡ get_or trees index tree → weight tree ≤ most_weight (parts_of trees)
weighs_less [] index tree lt is = absurd (omega (arith, lt))
weighs_less (first ∷ trees) zero tree lt is = omega (arith, ap weight is)
weighs_less (first ∷ trees) (suc index) tree lt is = omega (arith, weighs_less trees index tree (omega (arith, lt)) is)

module _ (whole : Tree) (trees these : List Tree) (same : these ≡ trees) where
  -- the parts of `and` and `or` weigh less than the whole
  pub conjunction_heavier : whole ≡ conjunction (parts_of trees) → most_weight (parts_of these) + 1 < weight whole
  conjunction_heavier is = omega (arith, ap weight is, ap (λ l. most_weight (parts_of l)) same)

  pub disjunction_heavier : whole ≡ disjunction (parts_of trees) → most_weight (parts_of these) + 1 < weight whole
  disjunction_heavier is = omega (arith, ap weight is, ap (λ l. most_weight (parts_of l)) same)
