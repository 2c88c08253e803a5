use Rattle.std.proofs.Common.{◌+◌, ◌*◌}
use Rattle.formulas.specs.EffectTree.{effect_parts_of, effect_height, most_effect_height}
use Rattle.explanations.proofs.support.+support.Given as goal

abbrev pub decreases-note_effect : goal.decreases-note_effect
decreases-note_effect l = 2 * effect_height l.effect.now

abbrev pub decreases-note_all : goal.decreases-note_all
decreases-note_all l = 2 * most_effect_height (effect_parts_of l.effects.now) + 1
