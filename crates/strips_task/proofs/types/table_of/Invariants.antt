use Rattle.std.proofs.Common.{◌≡◌, ◌+◌, ◌*◌, ◌<◌, ◌≤◌, ℕ, false, length}
use Rattle.bit_rows.specs.Rows.{row_has}
use Rattle.strips_task.specs.Types.{is_within}
use Rattle.strips_task.proofs.types.table_of.Given as goal

-- The types before this one are marked, and the others are not yet.
abbrev pub invariant-types : goal.invariant-types
invariant-types l = record {
  room : 17 * length l.parents ≤ length l.table.items;
  done : (sub sup : ℕ) → sub < l.number → row_has l.table.items (sup * 1088 + sub) ≡ is_within l.parents (length l.parents) sub sup;
  rest : (sub sup : ℕ) → l.number ≤ sub → sub < 1088 → row_has l.table.items (sup * 1088 + sub) ≡ false;
}
