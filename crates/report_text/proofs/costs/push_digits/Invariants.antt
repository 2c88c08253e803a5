use Rattle.std.proofs.Common.{◌≡◌, ◌<◌, ◌++◌, ◌^◌, ◌≤◌}
use Rattle.report_text.specs.CostText.{last_digits, without_end_zeros}
use Rattle.report_text.proofs.costs.push_digits.Given as goal

-- The digits so far and those of what is left are those of the number.
abbrev pub invariant-loop-left : goal.invariant-loop-left
invariant-loop-left l = record {
  same : l.text ++ without_end_zeros (last_digits l.indexes l.left) ≡ l.fn.text ++ without_end_zeros (last_digits 9 l.number);
  below : l.left < 10 ^ l.indexes;
  few : l.indexes ≤ 9;
}

abbrev pub decreases-loop-left : goal.decreases-loop-left
decreases-loop-left l = l.indexes
