use Rattle.std.proofs.Common.{rules, ◌<◌, ◌≤◌, ◌+◌, ◌∙◌, ap, sym}
use Rattle.formulas.specs.EffectNodes.{effect_of}
use Rattle.formulas.specs.EffectTree.{effect_parts_of}
use Rattle.strips_judge.proofs.EffectWeights.{effect_weight, most_effect_weight, joint_heavier, weighs_less}
use Rattle.strips_judge.proofs.StaticLaws.{joint_spares_is}
use Rattle.strips_judge.proofs.task_index.+mark_effect.Goals as goal

pub mark_effect-mark_effects-requires : goal.mark_effect-mark_effects-requires
mark_effect-mark_effects-requires t c =
    let lighter : most_effect_weight (effect_parts_of c.deref.result.now) + 1 < effect_weight c.args.effect.now =
    joint_heavier c.args.effect.now c.in-And.parts.items c.deref.result.now c.deref.ensures.value (sym c.node.ensures ∙ ap effect_of c.in-And.is) in
    search rules

pub mark_effect-returns-in-And : goal.mark_effect-returns-in-And
mark_effect-returns-in-And t c = λ pred unmarked.
    let found = c.mark_effects.ensures pred unmarked in
    (found.0, joint_spares_is pred c.args.effect.now c.in-And.parts.items c.deref.result.now c.deref.ensures.value (sym c.node.ensures ∙ ap effect_of c.in-And.is) found.1)

pub mark_effects-mark_effect-requires : goal.mark_effects-mark_effect-requires
mark_effects-mark_effect-requires t c =
    let lighter : effect_weight c.effect-item.result ≤ most_effect_weight (effect_parts_of c.args.effects.now) =
    weighs_less c.args.effects.now c.loop-effect.effect-index c.effect-item.result c.loop-effect-test.true c.effect-item.is in
    search rules
