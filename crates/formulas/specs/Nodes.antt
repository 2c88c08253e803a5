-- The tree of a node.

use Rattle.formulas.specs.Tree.{Tree, atom, equality, negation, conjunction, disjunction, implication, exists, for_all, parts_of}
use Rattle.formulas.specs.declared.formula.Node.{Node}
use Rattle.formulas.specs.declared.formula.Node.TheVariants.{Atom, Equal, Not, And, Or, Imply, Exists, ForAll}

-- the formula that has this node, without addresses in memory
abbrev pub tree_of : Node → Tree
tree_of (Atom positive pattern) = atom positive pattern
tree_of (Equal positive left right) = equality positive left right
tree_of (Not body) = negation body.value
tree_of (And parts) = conjunction (parts_of parts.items)
tree_of (Or parts) = disjunction (parts_of parts.items)
tree_of (Imply premise conclusion) = implication premise.value conclusion.value
tree_of (Exists groups body) = exists groups body.value
tree_of (ForAll groups body) = for_all groups body.value
