use Rattle.std.proofs.Common.{◌≡◌, ◌++◌, List, length}
use Rattle.strips_task.specs.declared.steps.StepText.{StepText}
use Rattle.plan_text.specs.Walks.{HasPassed}
use Rattle.text_judge.proofs.pass.fault_behind.Given as goal

-- Some steps more were passed.
abbrev pub invariant-steps : goal.invariant-steps
invariant-steps l = record {
  text : l.walk.text ≡ l.fn.walk.text;
  passed : (steps : List StepText) → HasPassed l.fn.walk steps → (more : List StepText) × HasPassed l.walk (steps ++ more);
}

abbrev pub decreases-steps : goal.decreases-steps
decreases-steps l = length l.walk.rest
