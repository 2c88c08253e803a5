use Rattle.std.proofs.Common.{length, ◌-◌, ◌≤◌}
use Rattle.plan_text.specs.Separators.{IsOnePartTo}
use Rattle.plan_text.proofs.parts.first_separator.Given as goal

-- the lines up to here are no separators
abbrev pub invariant-lines : goal.invariant-lines
invariant-lines l = record {
  within : l.start ≤ length l.text;
  one_part : IsOnePartTo l.text l.start;
}

abbrev pub decreases-lines : goal.decreases-lines
decreases-lines l = length l.text - l.start
