use Rattle.std.proofs.Common.{◌≡◌, ◌++◌, ◌-◌, true, false, drop, length}
use Rattle.bit_rows.specs.Rows.{row_has}
use Rattle.step_codes.specs.Programs.{numbers_changed}
use Rattle.step_codes.proofs.programs.run.Given as goal

abbrev pub invariant-loop-at : goal.invariant-loop-at
invariant-loop-at l = record {
  deleted : l.changes.deleted.items ++ numbers_changed (row_has l.state.bits) false 0 (drop l.at l.program)
      ≡ l.fn.changes.deleted.items ++ numbers_changed (row_has l.state.bits) false 0 l.program;
  added : l.changes.added.items ++ numbers_changed (row_has l.state.bits) true 0 (drop l.at l.program)
      ≡ l.fn.changes.added.items ++ numbers_changed (row_has l.state.bits) true 0 l.program;
}

abbrev pub decreases-loop-at : goal.decreases-loop-at
decreases-loop-at l = length l.program - l.at
