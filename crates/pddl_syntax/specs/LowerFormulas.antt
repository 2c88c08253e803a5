-- The parts of a formula are lower than the formula.

use Rattle.std.specs.Prelude.{◌≤◌, max}
use Rattle.std.proofs.Common.{arith}
use Rattle.pddl_syntax.specs.Heights.{height, list_lower}
use Rattle.pddl_syntax.specs.Nodes.{formula_of}
use Rattle.pddl_syntax.specs.declared.syntax.trees.FormulaNode.{FormulaNode}
use Rattle.pddl_syntax.specs.declared.syntax.trees.FormulaNode.TheVariants.{Atom, Equality, Not, And, Or, Imply, Exists, ForAll}
use Rattle.pddl_syntax.specs.declared.syntax.trees.FormulaSyntax.TheDeep.{deep-FormulaNode}

-- no part of a formula is as high as the formula
pub parts_lower : (node : FormulaNode) → max (deep-FormulaNode node) 0 ≤ height (formula_of node)
parts_lower (Atom positive atom) = omega arith
parts_lower (Equality positive equality) = omega arith
parts_lower (Not body) = omega arith
parts_lower (And parts) = omega (arith, list_lower parts.items)
parts_lower (Or parts) = omega (arith, list_lower parts.items)
parts_lower (Imply premise conclusion) = omega arith
parts_lower (Exists groups body) = omega arith
parts_lower (ForAll groups body) = omega arith
