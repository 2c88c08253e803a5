-- Walks over an effect end: each call is about something smaller.

use Rattle.std.proofs.Common.{◌≡◌, ◌+◌, ◌*◌, ◌≤◌, max, List, [], ◌∷◌, ap, arith}
use denote.Param.Weighed.{most}
use Rattle.formulas.specs.EffectTree.{EffectTree, effect_height}
use Rattle.formulas.specs.EffectNodes.{effect_of}
use Rattle.formulas.specs.EffectHeights.{parts_lower}
use Rattle.formulas.specs.declared.effect.EffectNode.{EffectNode}
use Rattle.formulas.specs.declared.effect.Effect.TheDeep.{size-Effect, deep-EffectNode}

sizes : (effects : List EffectTree) → most size-Effect effects ≤ 2 * most (λ effect. effect_height effect + 1) effects
sizes [] = omega arith
sizes (effect ∷ effects) = omega (arith, sizes effects)

-- the effects in the list of a node are smaller than the effect that has the node
pub list_smaller : (node : EffectNode) (whole : EffectTree) (effects slice : List EffectTree) → effect_of node ≡ whole
    → deep-EffectNode node ≡ max (most (λ effect. effect_height effect + 1) effects) 0 → slice ≡ effects → most size-Effect slice ≤ 2 * effect_height whole
list_smaller node whole effects slice is deep same = omega (arith, parts_lower node, ap effect_height is, deep, sizes effects, ap (most size-Effect) same)
