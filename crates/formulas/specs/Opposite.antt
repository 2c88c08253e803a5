-- Formulas with `not` moved inwards.

use Rattle.std.specs.Prelude.{not}
use Rattle.formulas.specs.Tree.{Tree, atom, equality, negation, conjunction, disjunction, implication, exists, for_all, Parts, no_parts, part}

-- the negation of a formula, with `not` at its literals instead of before it: `and` becomes `or`, `exists` becomes `forall`, and the other way round
abbrev mutual
  pub opposite : Tree → Tree
  opposite (atom positive pattern) = atom (not positive) pattern
  opposite (equality positive left right) = equality (not positive) left right
  opposite (negation tree) = tree
  opposite (conjunction parts) = disjunction (opposites parts)
  opposite (disjunction parts) = conjunction (opposites parts)
  opposite (implication premise conclusion) = conjunction (part premise (part (opposite conclusion) no_parts))
  opposite (exists groups body) = for_all groups (opposite body)
  opposite (for_all groups body) = exists groups (opposite body)

  pub opposites : Parts → Parts
  opposites no_parts = no_parts
  opposites (part tree parts) = part (opposite tree) (opposites parts)
