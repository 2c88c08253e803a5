use Rattle.std.proofs.Common.{◌<◌, ◌∙◌, length, sym, arith}
use Rattle.strips_judge.specs.Fitting.{object_fits}
use Rattle.strips_judge.specs.Listing.{candidates_of}
use Rattle.strips_judge.proofs.NoChoices.{none_passes_yet}
use Rattle.strips_judge.proofs.evaluation.has_object.Goals as goal

pub loop-index-preserved : goal.loop-index-preserved
loop-index-preserved c =
    let candidates = candidates_of c.candidates-candidates.result in
    let lt : c.loop-index.index < length candidates = omega (arith, c.loop-index-test.true, c.len-index-end.ensures) in
    none_passes_yet (object_fits c.args.task.now c.args.types.now) candidates c.loop-index.index c.get.result lt c.get.ensures c.loop-index.invariant (sym c.object_fits.ensures ∙ c.if-object_fits.false)
