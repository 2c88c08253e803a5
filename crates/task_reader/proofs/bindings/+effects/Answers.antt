use Rattle.std.proofs.Common.{rules, ◌*◌, ◌≤◌, ◌∙◌, sym, ap}
use Rattle.std.proofs.lemmas.Result.{err_from_is_err_and}
use denote.Param.Weighed.{most}
use Rattle.formulas.specs.EffectTree.{effect_height}
use Rattle.formulas.specs.declared.effect.Effect.TheDeep.{size-Effect, deep-EffectNode}
use Rattle.task_reader.proofs.EffectSizes.{list_smaller}
use Rattle.formulas.specs.EffectNodes.{effect_of}
use Rattle.task_reader.specs.Bindings.{effect_quantifiers}
use Rattle.task_reader.proofs.Walks.{all_effects, for_all_on, for_all_stops, when_on, when_stops, list_on, list_stops}
use Rattle.task_reader.proofs.bindings.+effects.Goals as goal

pub add_effect-add_effects-requires : goal.add_effect-add_effects-requires
add_effect-add_effects-requires t c = (
  (let fits : most size-Effect c.deref.result.now ≤ 2 * effect_height c.args.effect.now =
      list_smaller c.node.result.now c.args.effect.now c.in-And.parts.items c.deref.result.now c.node.ensures (ap deep-EffectNode c.in-And.is) c.deref.ensures.value in
      search rules),
  c.requires,
)

pub add_effect-returns-in-And : goal.add_effect-returns-in-And
add_effect-returns-in-And t c =
    c.add_effects.ensures
    ∙ all_effects c.args.counts.now.tally.task.now c.args.tally c.args.around c.args.effect.now c.in-And.parts.items c.deref.result.now
    (sym c.node.ensures ∙ ap effect_of c.in-And.is) c.deref.ensures.value

pub add_effect-returns-in_ok-next-in-When : goal.add_effect-returns-in_ok-next-in-When
add_effect-returns-in_ok-next-in-When t c =
    c.add_effect.ensures
    ∙ when_on c.args.counts.now.tally.task.now c.args.tally c.in_ok-next-in-When.next c.args.around c.args.effect.now c.in-When.body.value c.deref-in-When.result.now c.in-When.condition
    (sym c.node.ensures ∙ ap effect_of c.in-When.is) c.deref-in-When.ensures c.in_ok-next-in-When.ensures

pub add_effect-returns-in_err-next-in-When : goal.add_effect-returns-in_err-next-in-When
add_effect-returns-in_err-next-in-When t c =
    let p = err_from_is_err_and c.from_residual.result c.from_residual.ensures.1 in
    rw (p.1, p.2) (when_stops c.args.counts.now.tally.task.now c.args.tally c.in_err-next-in-When.field-0.0 c.args.around c.args.effect.now c.in-When.body.value c.in-When.condition
    (sym c.node.ensures ∙ ap effect_of c.in-When.is) c.in_err-next-in-When.ensures)

pub add_effect-returns-in_ok-next-in-ForAll : goal.add_effect-returns-in_ok-next-in-ForAll
add_effect-returns-in_ok-next-in-ForAll t c =
    c.add_effect-in-ForAll.ensures
    ∙ for_all_on c.args.counts.now.tally.task.now c.args.tally c.in_ok-next-in-ForAll.next c.args.around c.inside.result c.args.effect.now c.in-ForAll.body.value c.deref-in-ForAll.result.now
    c.in-ForAll.groups c.as_slice.result.now c.as_slice-in-ForAll.result.now
    (sym c.node.ensures ∙ ap effect_of c.in-ForAll.is) c.deref-in-ForAll.ensures c.as_slice.ensures c.as_slice-in-ForAll.ensures c.inside.ensures.product c.in_ok-next-in-ForAll.ensures

pub add_effect-returns-in_err-next-in-ForAll : goal.add_effect-returns-in_err-next-in-ForAll
add_effect-returns-in_err-next-in-ForAll t c =
    let p = err_from_is_err_and c.from_residual-in_err-next-in-ForAll.result c.from_residual-in_err-next-in-ForAll.ensures.1 in
    rw (p.1, p.2) (for_all_stops c.args.counts.now.tally.task.now c.args.tally c.in_err-next-in-ForAll.field-0.0 c.args.around c.args.effect.now c.in-ForAll.body.value c.in-ForAll.groups
    c.as_slice.result.now (sym c.node.ensures ∙ ap effect_of c.in-ForAll.is) c.as_slice.ensures c.in_err-next-in-ForAll.ensures)

pub add_effects-returns-in_err-next : goal.add_effects-returns-in_err-next
add_effects-returns-in_err-next t c =
    let p = err_from_is_err_and c.from_residual.result c.from_residual.ensures.1 in
    rw (p.1, p.2) (list_stops (effect_quantifiers c.args.counts.now.tally.task.now c.args.around) c.args.effects.now c.loop-effect.effect-index c.effect-item.result
    c.loop-effect-test.true c.effect-item.is c.loop-effect.next _ c.loop-effect.invariant c.in_err-next.field-0.0 c.in_err-next.ensures)

pub add_effects-loop-effect-preserved : goal.add_effects-loop-effect-preserved
add_effects-loop-effect-preserved t c =
    list_on (effect_quantifiers c.args.counts.now.tally.task.now c.args.around) c.args.effects.now c.loop-effect.effect-index c.effect-item.result c.loop-effect-test.true c.effect-item.is
    c.loop-effect.next _ c.loop-effect.invariant c.in_ok-next.next c.in_ok-next.ensures
