-- The parts of an effect are lower than the effect, so a recursion over its parts ends.

use Rattle.std.specs.Prelude.{◌+◌, ◌≤◌, max, List, [], ◌∷◌}
use Rattle.std.proofs.Common.{arith}
use denote.Param.Weighed.{most}
use Rattle.formulas.specs.EffectTree.{EffectTree, effect_parts_of, effect_height, most_effect_height}
use Rattle.formulas.specs.EffectNodes.{effect_of}
use Rattle.formulas.specs.declared.effect.EffectNode.{EffectNode}
use Rattle.formulas.specs.declared.effect.EffectNode.TheVariants.{Atom, And, When, ForAll}
use Rattle.formulas.specs.declared.effect.Effect.TheDeep.{deep-EffectNode}

-- no effect of a list is higher than the highest
pub effects_lower : (effects : List EffectTree) → most (λ effect. effect_height effect + 1) effects ≤ most_effect_height (effect_parts_of effects) + 1
effects_lower [] = omega arith
effects_lower (effect ∷ effects) = omega (arith, effects_lower effects)

-- no part of an effect is as high as the effect
pub parts_lower : (node : EffectNode) → max (deep-EffectNode node) 0 ≤ effect_height (effect_of node)
parts_lower (Atom positive pattern) = omega arith
parts_lower (And parts) = omega (arith, effects_lower parts.items)
parts_lower (When condition body) = omega arith
parts_lower (ForAll groups body) = omega arith
