-- The formula and the effect of a node.

use Rattle.pddl_syntax.specs.Forms.{atom_form, equality_form, amount_form, variable_groups}
use Rattle.pddl_syntax.specs.Syntax.{FormulaForm, atom_formula, equality_formula, negation, conjunction, disjunction, implication, exists, for_all, formulas_of, EffectForm, atom_effect, increase_effect, joint_effect, conditional_effect, universal_effect, effects_of}
use Rattle.pddl_syntax.specs.declared.syntax.trees.FormulaNode.{FormulaNode}
use Rattle.pddl_syntax.specs.declared.syntax.trees.FormulaNode.TheVariants as formula
use Rattle.pddl_syntax.specs.declared.syntax.trees.EffectNode.{EffectNode}
use Rattle.pddl_syntax.specs.declared.syntax.trees.EffectNode.TheVariants as effect

-- the formula that has this node
abbrev pub formula_of : FormulaNode → FormulaForm
formula_of (formula.Atom positive atom) = atom_formula positive (atom_form atom)
formula_of (formula.Equality positive equality) = equality_formula positive (equality_form equality)
formula_of (formula.Not body) = negation body.value
formula_of (formula.And parts) = conjunction (formulas_of parts.items)
formula_of (formula.Or parts) = disjunction (formulas_of parts.items)
formula_of (formula.Imply premise conclusion) = implication premise.value conclusion.value
formula_of (formula.Exists groups body) = exists (variable_groups groups.items) body.value
formula_of (formula.ForAll groups body) = for_all (variable_groups groups.items) body.value

-- the effect that has this node
abbrev pub effect_of : EffectNode → EffectForm
effect_of (effect.Atom positive atom) = atom_effect positive (atom_form atom)
effect_of (effect.Increase increase) = increase_effect (amount_form increase.value.amount)
effect_of (effect.And parts) = joint_effect (effects_of parts.items)
effect_of (effect.When condition body) = conditional_effect condition.value body.value
effect_of (effect.ForAll groups body) = universal_effect (variable_groups groups.items) body.value
