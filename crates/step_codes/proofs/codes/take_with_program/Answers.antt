use Rattle.std.proofs.Common.{refl}
use Rattle.bit_rows.specs.Rows.{row_has}
use Rattle.step_codes.specs.Codes.{code_shown}
use Rattle.strips_judge.specs.Step.{deletes, adds}
use Rattle.strips_judge.specs.State.{without}
use Rattle.strips_judge.specs.NumberedState.{state_of}
use Rattle.step_codes.proofs.CodeLaws.{bits_of_state, code_hinders_not, code_leads}
use Rattle.step_codes.proofs.codes.take_with_program.Goals as goal

pub returns-then-all_are-2-clause-taken : goal.returns-then-all_are-2-clause-taken
returns-then-all_are-2-clause-taken c = λ t parts step stays is.
    let atoms = c.args.state.now.atoms in
    let state = state_of c.args.state.now in
    let code = code_shown c.args.code in
    let bits = row_has c.args.state.now.bits in (
      code_hinders_not parts atoms state step code stays is (c.all_are.ensures c.if-all_are.true) (c.all_are-then-all_are.ensures c.if-all_are-2.true),
      code_leads parts atoms state step code stays is (without state (deletes parts state step)) (state_of c.change_by_program.new.state) refl
          (c.in_ok-change_by_program.ensures.state (deletes parts state step) (adds parts state step) (is.deleted state bits stays (bits_of_state c.args.state.now)) (is.added state bits stays (bits_of_state c.args.state.now))),
    )
