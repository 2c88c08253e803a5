use Rattle.std.proofs.Common.{◌≡◌, ◌+◌, ◌++◌, length, map}
use Rattle.intake_core.specs.Asked.{asked}
use Rattle.steps_text.specs.StepsTexts.{kept_lines, steps_fault, steps_of}
use Rattle.steps_text.proofs.read.read_all.Given as goal

-- the steps so far and those of the lines that are left are those of all lines, and so is the fault
abbrev pub invariant-lines : goal.invariant-lines
invariant-lines l = record {
  steps : map asked l.steps ++ steps_of (kept_lines (l.lines.taken + 1) l.lines.left) ≡ steps_of (kept_lines (l.fn.lines.taken + 1) l.fn.lines.left);
  fault : steps_fault (length l.steps) (kept_lines (l.lines.taken + 1) l.lines.left) ≡ steps_fault 0 (kept_lines (l.fn.lines.taken + 1) l.fn.lines.left);
}

abbrev pub decreases-lines : goal.decreases-lines
decreases-lines l = length l.lines.left
