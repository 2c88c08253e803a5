-- Walks over the syntax of formulas and effects end: each call is about something smaller.

use Rattle.std.proofs.Common.{◌≡◌, ◌+◌, ◌*◌, ◌≤◌, max, List, [], ◌∷◌, ap, arith}
use denote.Param.Weighed.{most}
use Rattle.pddl_syntax.specs.Heights.{height, effect_height}
use Rattle.pddl_syntax.specs.LowerEffects as effects
use Rattle.pddl_syntax.specs.LowerFormulas as formulas
use Rattle.pddl_syntax.specs.Nodes.{formula_of, effect_of}
use Rattle.pddl_syntax.specs.Syntax.{FormulaForm, EffectForm}
use Rattle.pddl_syntax.specs.declared.syntax.trees.FormulaNode.{FormulaNode}
use Rattle.pddl_syntax.specs.declared.syntax.trees.EffectNode.{EffectNode}
use Rattle.pddl_syntax.specs.declared.syntax.trees.FormulaSyntax.TheDeep.{size-FormulaSyntax, deep-FormulaNode}
use Rattle.pddl_syntax.specs.declared.syntax.trees.EffectSyntax.TheDeep.{size-EffectSyntax, deep-EffectNode}

formula_sizes : (forms : List FormulaForm) → most size-FormulaSyntax forms ≤ 2 * most (λ form. height form + 1) forms
formula_sizes [] = omega arith
formula_sizes (form ∷ forms) = omega (arith, formula_sizes forms)

-- The formulas in the list of a node are smaller than the formula that has the node.
pub formulas_smaller : (node : FormulaNode) (whole : FormulaForm) (forms slice : List FormulaForm) → formula_of node ≡ whole →
    deep-FormulaNode node ≡ max (most (λ form. height form + 1) forms) 0 → slice ≡ forms → most size-FormulaSyntax slice ≤ 2 * height whole
formulas_smaller node whole forms slice is deep same =
    omega (arith, formulas.parts_lower node, ap height is, formula_sizes forms, ap (most size-FormulaSyntax) same)

effect_sizes : (forms : List EffectForm) → most size-EffectSyntax forms ≤ 2 * most (λ form. effect_height form + 1) forms
effect_sizes [] = omega arith
effect_sizes (form ∷ forms) = omega (arith, effect_sizes forms)

-- The effects in the list of a node are smaller than the effect that has the node.
pub effects_smaller : (node : EffectNode) (whole : EffectForm) (forms slice : List EffectForm) → effect_of node ≡ whole →
    deep-EffectNode node ≡ max (most (λ form. effect_height form + 1) forms) 0 → slice ≡ forms → most size-EffectSyntax slice ≤ 2 * effect_height whole
effects_smaller node whole forms slice is deep same =
    omega (arith, effects.parts_lower node, ap effect_height is, effect_sizes forms, ap (most size-EffectSyntax) same)
