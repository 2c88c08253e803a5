-- Walks over a formula end: each call is about something smaller.

use Rattle.std.proofs.Common.{◌≡◌, ◌+◌, ◌*◌, ◌≤◌, max, List, [], ◌∷◌, ap, arith}
use denote.Param.Weighed.{most}
use Rattle.formulas.specs.Tree.{Tree, height}
use Rattle.formulas.specs.Nodes.{tree_of}
use Rattle.formulas.specs.Heights.{parts_lower}
use Rattle.formulas.specs.declared.formula.Node.{Node}
use Rattle.formulas.specs.declared.formula.Formula.TheDeep.{size-Formula, deep-Node}

sizes : (trees : List Tree) → most size-Formula trees ≤ 2 * most (λ tree. height tree + 1) trees
sizes [] = omega arith
sizes (tree ∷ trees) = omega (arith, sizes trees)

-- A node is no higher than the formula that has it.
pub node_lower : (node : Node) (whole : Tree) → tree_of node ≡ whole → deep-Node node ≤ height whole
node_lower node whole is = omega (arith, parts_lower node, ap height is)

-- The formulas in the list of a node are smaller than the node.
pub list_lower : (node : Node) (trees slice : List Tree) → deep-Node node ≡ max (most (λ tree. height tree + 1) trees) 0 → slice ≡ trees
    → most size-Formula slice ≤ 2 * deep-Node node
list_lower node trees slice deep same = omega (arith, sizes trees, ap (most size-Formula) same)

-- So they are smaller than the formula that has the node.
pub list_smaller : (node : Node) (whole : Tree) (trees slice : List Tree) → tree_of node ≡ whole → deep-Node node ≡ max (most (λ tree. height tree + 1) trees) 0 → slice ≡ trees
    → most size-Formula slice ≤ 2 * height whole
list_smaller node whole trees slice is deep same = omega (arith, node_lower node whole is, list_lower node trees slice deep same)
