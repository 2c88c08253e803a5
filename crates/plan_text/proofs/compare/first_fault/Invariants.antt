use Rattle.std.proofs.Common.{length}
use Rattle.plan_text.proofs.Comparisons.{IsWalked}
use Rattle.plan_text.proofs.compare.first_fault.Given as goal

abbrev pub invariant-steps : goal.invariant-steps
invariant-steps l = IsWalked l.fn.walk l.walk

abbrev pub decreases-steps : goal.decreases-steps
decreases-steps l = length l.walk.rest
