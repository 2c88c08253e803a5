-- How much there is to gather in an effect. Each call of the walk over effects is about less.

use Rattle.std.proofs.Common.{◌≡◌, ℕ, ◌+◌, ◌*◌, ◌<◌, ◌≤◌, max, List, [], ◌∷◌, length, get_or, zero, suc, arith, ap}
use Rattle.formulas.specs.EffectTree.{EffectTree, change, joint, conditional, universal, EffectParts, no_effects, effect_part, effect_parts_of}
use Rattle.formulas.specs.Variables.{variable_types}

-- two calls for each variable, and two around the parts of every effect
abbrev mutual
  pub effect_weight : EffectTree → ℕ
  effect_weight (change positive pattern) = 0
  effect_weight (joint parts) = most_effect_weight parts + 2
  effect_weight (conditional condition effect) = effect_weight effect + 2
  effect_weight (universal groups effect) = effect_weight effect + 2 * length (variable_types groups) + 2

  pub most_effect_weight : EffectParts → ℕ
  most_effect_weight no_effects = 0
  most_effect_weight (effect_part effect parts) = max (effect_weight effect) (most_effect_weight parts)

-- no effect of a list weighs more than the heaviest
pub weighs_less : (effects : List EffectTree) (index : ℕ) (effect : EffectTree) → index < length effects → effect ≡ get_or effects index effect
    → effect_weight effect ≤ most_effect_weight (effect_parts_of effects)
weighs_less [] index effect lt is = absurd (omega (arith, lt))
weighs_less (first ∷ effects) zero effect lt is = omega (arith, ap effect_weight is)
weighs_less (first ∷ effects) (suc index) effect lt is = omega (arith, weighs_less effects index effect (omega (arith, lt)) is)

-- the parts of `and` weigh less than the whole
pub joint_heavier : (whole : EffectTree) (effects these : List EffectTree) → these ≡ effects → whole ≡ joint (effect_parts_of effects)
    → most_effect_weight (effect_parts_of these) + 1 < effect_weight whole
joint_heavier whole effects these same is = omega (arith, ap effect_weight is, ap (λ l. most_effect_weight (effect_parts_of l)) same)
