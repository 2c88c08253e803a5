use Rattle.std.proofs.Common.{◌∙◌, ◌++◌, Bool, true, false, sym, ap}
use Rattle.bit_rows.specs.Rows.{row_has}
use Rattle.step_codes.proofs.Instructions.{failed}
use Rattle.step_codes.proofs.programs.run.Goals as goal

pub loop-at-preserved-then-has-truth : goal.loop-at-preserved-then-has-truth
loop-at-preserved-then-has-truth c =
    let on = λ (truth : Bool). sym (failed (row_has c.args.state.now.bits) truth c.args.program.now c.loop-at.at c.in-Test.truth c.has.result c.in-Test.number c.in-Test.skip _ c.loop-at-test.true c.in-Test.is c.has.ensures.bit c.if-has-truth.true) in
    record {
      deleted = ap (λ l. c.loop-at.changes.deleted.items ++ l) (on false) ∙ c.loop-at.invariant.deleted;
      added = ap (λ l. c.loop-at.changes.added.items ++ l) (on true) ∙ c.loop-at.invariant.added;
    }
