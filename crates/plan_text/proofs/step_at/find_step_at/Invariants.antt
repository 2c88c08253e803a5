use Rattle.std.proofs.Common.{◌≡◌, List, length, slice_get}
use Rattle.strips_task.specs.declared.steps.StepText.{StepText}
use Rattle.plan_text.specs.StepAt.{IsWhere}
use Rattle.plan_text.specs.Walks.{HasPassed}
use Rattle.plan_text.proofs.step_at.find_step_at.Given as goal

-- Of the steps that were passed, the one at the index was found.
abbrev pub invariant-steps : goal.invariant-steps
invariant-steps l = record {
  text : l.walk.text ≡ l.fn.text;
  found : (steps : List StepText) × HasPassed l.walk steps × IsWhere l.found (slice_get steps l.index);
}

abbrev pub decreases-steps : goal.decreases-steps
decreases-steps l = length l.walk.rest
