use Rattle.std.proofs.Common.{rules, ◌≤◌}
use Rattle.formulas.specs.EffectTree.{effect_parts_of, effect_height, most_effect_height}
use Rattle.explanations.proofs.EffectHeights.{no_higher}
use Rattle.explanations.proofs.support.+support.Goals as goal

pub note_all-note_effect-requires : goal.note_all-note_effect-requires
note_all-note_effect-requires t c = (
  (let lower : effect_height c.effect-item.result ≤ most_effect_height (effect_parts_of c.args.effects.now) =
      no_higher c.args.effects.now c.loop-effect.effect-index c.effect-item.result c.loop-effect-test.true c.effect-item.is in
      search rules),
  tt,
)
