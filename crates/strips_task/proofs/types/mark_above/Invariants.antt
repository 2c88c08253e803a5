use Rattle.std.proofs.Common.{◌≡◌, ◌≢◌, ◌+◌, ◌*◌, ◌-◌, ◌<◌, ◌||◌, ℕ, length}
use Rattle.bit_rows.specs.Rows.{row_has}
use Rattle.strips_task.specs.Types.{is_within}
use Rattle.strips_task.proofs.types.mark_above.Given as goal

-- A row has the type where it was marked, or where what is left of the walk meets the type whose row it is.
abbrev pub invariant-up : goal.invariant-up
invariant-up l = record {
  known : l.at < length l.parents;
  marked : (sup : ℕ) → (row_has l.table (sup * 1088 + l.number) || is_within l.parents (length l.parents - l.counter) l.at sup)
      ≡ (row_has l.fn.table (sup * 1088 + l.number) || is_within l.parents (length l.parents) l.number sup);
  others : (sub sup : ℕ) → sub < 1088 → sub ≢ l.number → row_has l.table (sup * 1088 + sub) ≡ row_has l.fn.table (sup * 1088 + sub);
}
