use Rattle.std.proofs.Common.{◌≡◌, ◌+◌, ◌≤◌, length}
use Rattle.steps_text.specs.StepsTexts.{kept_lines}
use Rattle.steps_text.proofs.lines.Lines.next_kept.Given as goal

-- the lines that were taken here were skipped
abbrev pub invariant-lines : goal.invariant-lines
invariant-lines l = record {
  same : kept_lines (l.self.taken + 1) l.self.left ≡ kept_lines (l.fn.self.taken + 1) l.fn.self.left;
  count : l.self.taken + length l.self.left ≡ l.fn.self.taken + length l.fn.self.left;
  fewer : length l.self.left ≤ length l.fn.self.left;
}

abbrev pub decreases-lines : goal.decreases-lines
decreases-lines l = length l.self.left
