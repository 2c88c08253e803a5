use Rattle.std.proofs.Common.{◌+◌, ◌*◌}
use Rattle.formulas.specs.EffectTree.{effect_parts_of, effect_height, most_effect_height}
use Rattle.explanations.proofs.effects.+gathering.Given as goal

abbrev pub decreases-gather : goal.decreases-gather
decreases-gather l = 2 * effect_height l.effect.now

abbrev pub decreases-gather_all : goal.decreases-gather_all
decreases-gather_all l = 2 * most_effect_height (effect_parts_of l.effects.now) + 1

abbrev pub decreases-gather_guarded : goal.decreases-gather_guarded
decreases-gather_guarded l = 2 * effect_height l.body.now + 1

abbrev pub decreases-gather_each : goal.decreases-gather_each
decreases-gather_each l = 2 * effect_height l.body.now + 1
