use Rattle.std.proofs.Common.{◌≡◌, ◌<◌, ◌/◌, ℕ, false}
use Rattle.bit_rows.specs.Rows.{row_has}
use Rattle.intake_core.proofs.desk.least_waiting.Given as goal

abbrev pub invariant-loop-index : goal.invariant-loop-index
invariant-loop-index l = (k : ℕ) → k / 64 < l.index → row_has l.words k ≡ false
