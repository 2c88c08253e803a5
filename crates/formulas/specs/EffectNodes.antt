-- The tree of an effect's node.

use Rattle.formulas.specs.EffectTree.{EffectTree, change, joint, conditional, universal, effect_parts_of}
use Rattle.formulas.specs.declared.effect.EffectNode.{EffectNode}
use Rattle.formulas.specs.declared.effect.EffectNode.TheVariants.{Atom, And, When, ForAll}

-- the effect that has this node, without addresses in memory
abbrev pub effect_of : EffectNode → EffectTree
effect_of (Atom positive pattern) = change positive pattern
effect_of (And parts) = joint (effect_parts_of parts.items)
effect_of (When condition body) = conditional condition body.value
effect_of (ForAll groups body) = universal groups body.value
