use Rattle.std.proofs.Common.{◌≡◌, [], length}
use Rattle.plan_text.specs.Walks.{HasPassed}
use Rattle.plan_text.proofs.read.read_plan.Given as goal

-- The plan has the steps that were passed, and no step is open.
abbrev pub invariant-steps : goal.invariant-steps
invariant-steps l = record {
  text : l.walk.text ≡ l.fn.text;
  passed : HasPassed l.walk l.plan.steps;
  closed : l.plan.words ≡ [];
}

abbrev pub decreases-steps : goal.decreases-steps
decreases-steps l = length l.walk.rest
