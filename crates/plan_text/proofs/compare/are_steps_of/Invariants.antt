use Rattle.std.proofs.Common.{length}
use Rattle.plan_text.proofs.Comparisons.{IsPart}
use Rattle.plan_text.proofs.compare.are_steps_of.Given as goal

abbrev pub invariant-steps : goal.invariant-steps
invariant-steps l = IsPart l.fn.steps l.fn.walk l.walk l.same

abbrev pub decreases-steps : goal.decreases-steps
decreases-steps l = length l.walk.rest
