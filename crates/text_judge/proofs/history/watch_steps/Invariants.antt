use Rattle.std.proofs.Common.{◌≡◌, length}
use Rattle.text_judge.specs.Watches.{WatchTogether}
use Rattle.text_judge.proofs.history.watch_steps.Given as goal

-- The walk and the judge are behind the same steps, and so are the watches.
abbrev pub invariant-steps : goal.invariant-steps
invariant-steps l = record {
  task : l.judge.task ≡ l.fn.judge.task;
  text : l.walk.text ≡ l.fn.walk.text;
  together : WatchTogether l.walk l.judge l.atoms l.watches;
}

abbrev pub decreases-steps : goal.decreases-steps
decreases-steps l = length l.walk.rest
