-- The parts of a formula and of an effect are lower than the whole, so a recursion over the parts ends.

use Rattle.std.specs.Prelude.{ℕ, ◌+◌, ◌≤◌, max, List, [], ◌∷◌}
use Rattle.std.proofs.Common.{arith}
use denote.Param.Weighed.{most}
use Rattle.pddl_syntax.specs.Syntax.{FormulaForm, atom_formula, equality_formula, negation, conjunction, disjunction, implication, exists, for_all, FormulaForms, no_formulas, formula_then, formulas_of, EffectForm, atom_effect, increase_effect, joint_effect, conditional_effect, universal_effect, EffectForms, no_effects, effect_then, effects_of}

-- how many formulas are around the one that is deepest inside
abbrev mutual
  pub height : FormulaForm → ℕ
  height (atom_formula positive atom) = 0
  height (equality_formula positive equality) = 0
  height (negation formula) = height formula + 1
  height (conjunction formulas) = most_height formulas + 1
  height (disjunction formulas) = most_height formulas + 1
  height (implication premise conclusion) = max (height premise) (height conclusion) + 1
  height (exists groups body) = height body + 1
  height (for_all groups body) = height body + 1

  pub most_height : FormulaForms → ℕ
  most_height no_formulas = 0
  most_height (formula_then formula formulas) = max (height formula) (most_height formulas)

-- no formula of a list is higher than the highest
pub list_lower : (formulas : List FormulaForm) → most (λ formula. height formula + 1) formulas ≤ most_height (formulas_of formulas) + 1
list_lower [] = omega arith
list_lower (formula ∷ formulas) = omega (arith, list_lower formulas)

-- how many effects are around the one that is deepest inside
abbrev mutual
  pub effect_height : EffectForm → ℕ
  effect_height (atom_effect positive atom) = 0
  effect_height (increase_effect amount) = 0
  effect_height (joint_effect effects) = most_effect_height effects + 1
  effect_height (conditional_effect condition effect) = effect_height effect + 1
  effect_height (universal_effect groups effect) = effect_height effect + 1

  pub most_effect_height : EffectForms → ℕ
  most_effect_height no_effects = 0
  most_effect_height (effect_then effect effects) = max (effect_height effect) (most_effect_height effects)

-- no effect of a list is higher than the highest
pub effects_lower : (effects : List EffectForm) → most (λ effect. effect_height effect + 1) effects ≤ most_effect_height (effects_of effects) + 1
effects_lower [] = omega arith
effects_lower (effect ∷ effects) = omega (arith, effects_lower effects)
