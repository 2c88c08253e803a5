-- The parts of an effect are lower than the effect.

use Rattle.std.specs.Prelude.{◌≤◌, max}
use Rattle.std.proofs.Common.{arith}
use Rattle.pddl_syntax.specs.Heights.{effect_height, effects_lower}
use Rattle.pddl_syntax.specs.Nodes.{effect_of}
use Rattle.pddl_syntax.specs.declared.syntax.trees.EffectNode.{EffectNode}
use Rattle.pddl_syntax.specs.declared.syntax.trees.EffectNode.TheVariants.{Atom, Increase, And, When, ForAll}
use Rattle.pddl_syntax.specs.declared.syntax.trees.EffectSyntax.TheDeep.{deep-EffectNode}

-- no part of an effect is as high as the effect
pub parts_lower : (node : EffectNode) → max (deep-EffectNode node) 0 ≤ effect_height (effect_of node)
parts_lower (Atom positive atom) = omega arith
parts_lower (Increase increase) = omega arith
parts_lower (And parts) = omega (arith, effects_lower parts.items)
parts_lower (When condition body) = omega arith
parts_lower (ForAll groups body) = omega arith
