use Rattle.std.proofs.Common.{◌≡◌, ◌≤◌, length}
use Rattle.std.specs.Prelude.{◌&&◌}
use Rattle.std.specs.List.{list_all}
use Rattle.plan_text.specs.Bundle.{parts_from}
use Rattle.explanations.specs.AllValid.{is_valid_plan, are_valid_in}
use Rattle.explanations.proofs.answers.push_file.Given as goal

-- The plans so far and those that are left are valid just if all are.
abbrev pub invariant-parts : goal.invariant-parts
invariant-parts l = record {
  within : l.start ≤ length l.file.bytes.now;
  judge : l.judge ≡ l.fn.judge;
  valid : (l.fn.tally.all_valid && are_valid_in l.fn.judge l.file.bytes.now) ≡ (l.tally.all_valid && list_all (is_valid_plan l.fn.judge) (parts_from l.file.bytes.now l.start));
}

abbrev pub decreases-parts : goal.decreases-parts
decreases-parts l = length (parts_from l.file.bytes.now l.start)
