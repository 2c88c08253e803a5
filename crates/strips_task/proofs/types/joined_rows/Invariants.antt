use Rattle.std.proofs.Common.{◌≡◌, ◌+◌, ◌*◌, ◌<◌, ◌&&◌, ℕ, nat_lt, take}
use Rattle.std.specs.List.{list_any}
use Rattle.bit_rows.specs.Rows.{row_has}
use Rattle.strips_task.proofs.types.joined_rows.Given as goal

-- The rows so far are joined.
abbrev pub invariant-rows : goal.invariant-rows
invariant-rows g l = (k : ℕ) → k < 64 * g.row.WORDS
    → row_has l.joined k ≡ list_any (λ sup. nat_lt sup l.count && row_has l.table (sup * 1088 + k)) (take l.sup-index l.sups)
