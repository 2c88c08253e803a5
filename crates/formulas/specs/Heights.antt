-- The parts of a formula are lower than the formula, so a recursion over its parts ends.

use Rattle.std.specs.Prelude.{◌+◌, ◌≤◌, max, List, [], ◌∷◌}
use Rattle.std.proofs.Common.{arith}
use denote.Param.Weighed.{most}
use Rattle.formulas.specs.Tree.{Tree, parts_of, height, most_height}
use Rattle.formulas.specs.Nodes.{tree_of}
use Rattle.formulas.specs.declared.formula.Node.{Node}
use Rattle.formulas.specs.declared.formula.Node.TheVariants.{Atom, Equal, Not, And, Or, Imply, Exists, ForAll}
use Rattle.formulas.specs.declared.formula.Formula.TheDeep.{deep-Node}

-- no formula of a list is higher than the highest
pub list_lower : (trees : List Tree) → most (λ tree. height tree + 1) trees ≤ most_height (parts_of trees) + 1
list_lower [] = omega arith
list_lower (tree ∷ trees) = omega (arith, list_lower trees)

-- no part of a formula is as high as the formula
pub parts_lower : (node : Node) → max (deep-Node node) 0 ≤ height (tree_of node)
parts_lower (Atom positive pattern) = omega arith
parts_lower (Equal positive left right) = omega arith
parts_lower (Not body) = omega arith
parts_lower (And parts) = omega (arith, list_lower parts.items)
parts_lower (Or parts) = omega (arith, list_lower parts.items)
parts_lower (Imply premise conclusion) = omega arith
parts_lower (Exists groups body) = omega arith
parts_lower (ForAll groups body) = omega arith
