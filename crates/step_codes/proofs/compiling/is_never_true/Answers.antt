use Rattle.std.proofs.Common.{◌∙◌, ap, length}
use Rattle.strips_judge.proofs.Evaluations.{part_within}
use Rattle.step_codes.proofs.compiling.is_never_true.Goals as goal

pub lasting_truth-requires : goal.lasting_truth-requires
lasting_truth-requires c =
    let params = length c.args.arguments.objects.now in
    let bound = length c.args.room.now.bound.items in
    part_within params bound c.conjuncts-conjunct-items.result.now c.loop-conjunct.conjunct-index c.conjunct-item.result (length c.as_slice-bound.result.now) c.loop-conjunct-test.true c.conjunct-item.is
    (ap length c.as_slice-bound.ensures.value ∙ ap (λ bound. length bound.items) c.loop-conjunct.invariant) (c.conjuncts-conjunct-items.ensures.within params bound c.requires)
