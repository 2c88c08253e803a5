use Rattle.std.proofs.Common.{◌≡◌, drop}
use Rattle.std.specs.List.{flat_map}
use Rattle.task_reader.specs.Bindings.{effect_quantifiers, with_quantifiers}
use Rattle.task_reader.proofs.bindings.+effects.Given as goal

abbrev pub invariant-add_effects-loop-effect : goal.invariant-add_effects-loop-effect
invariant-add_effects-loop-effect l =
    with_quantifiers l.next (flat_map (effect_quantifiers l.counts.tally.task.now l.around) (drop l.effect-index l.effects))
    ≡ with_quantifiers l.fn.tally (flat_map (effect_quantifiers l.counts.tally.task.now l.around) l.effects)
