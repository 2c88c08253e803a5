use Rattle.std.proofs.Common.{◌≡◌, length}
use Rattle.text_judge.specs.Passes.{AreTogether}
use Rattle.text_judge.proofs.pass.pass.Given as goal

-- The judge has taken the steps that the walk has passed.
abbrev pub invariant-steps : goal.invariant-steps
invariant-steps l = record {
  task : l.judge.task ≡ l.fn.judge.task;
  text : l.walk.text ≡ l.fn.walk.text;
  together : AreTogether l.walk l.judge;
}

abbrev pub decreases-steps : goal.decreases-steps
decreases-steps l = length l.walk.rest
