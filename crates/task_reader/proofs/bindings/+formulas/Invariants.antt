use Rattle.std.proofs.Common.{◌≡◌, drop}
use Rattle.std.specs.List.{flat_map}
use Rattle.task_reader.specs.Bindings.{quantifiers, with_quantifiers}
use Rattle.task_reader.proofs.bindings.+formulas.Given as goal

abbrev pub invariant-add_formulas-loop-formula : goal.invariant-add_formulas-loop-formula
invariant-add_formulas-loop-formula l =
    with_quantifiers l.next (flat_map (quantifiers l.counts.tally.task.now l.around) (drop l.formula-index l.formulas))
    ≡ with_quantifiers l.fn.tally (flat_map (quantifiers l.counts.tally.task.now l.around) l.formulas)
