use Rattle.std.proofs.Common.{arith}
use Rattle.std.proofs.lemmas.Bool.{ne_eqb}
use Rattle.steps_text.specs.Words.{without_crs}
use Rattle.steps_text.proofs.Trims.{nothing_left, no_cr_left}
use Rattle.steps_text.proofs.words.without_crs.Goals.{then-loop-end-test+else-line-end-eq13, else-loop-end-test}
use Rattle.steps_text.proofs.words.without_crs.Goals as goal

pub returns : goal.returns
unfolding without_crs
returns c =
    elim c.loop-end-test.branch [
      | then-loop-end-test+else-line-end-eq13 w ↦ no_cr_left c.args.line.now c.loop-end.end w.loop-end-test.true c.loop-end.invariant.within (ne_eqb _ _ w.if-line-end-eq13.false) c.loop-end.invariant.same
      | else-loop-end-test w ↦ nothing_left c.args.line.now c.loop-end.end (omega (arith, w.loop-end-test.false)) c.loop-end.invariant.same
    ]
