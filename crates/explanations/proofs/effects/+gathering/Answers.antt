use Rattle.std.proofs.Common.{rules, ◌≤◌}
use Rattle.formulas.specs.EffectTree.{effect_parts_of, effect_height, most_effect_height}
use Rattle.explanations.proofs.EffectHeights.{no_higher}
use Rattle.explanations.proofs.effects.+gathering.Goals as goal

pub gather_all-gather-requires : goal.gather_all-gather-requires
gather_all-gather-requires t c = (
  (let lower : effect_height c.effect-item.result ≤ most_effect_height (effect_parts_of c.args.effects.now) =
      no_higher c.args.effects.now c.loop-effect.effect-index c.effect-item.result c.loop-effect-test.true c.effect-item.is in
      search rules),
  tt,
)
