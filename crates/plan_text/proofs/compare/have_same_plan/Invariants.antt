use Rattle.std.proofs.Common.{length}
use Rattle.plan_text.proofs.Comparisons.{Compared}
use Rattle.plan_text.proofs.compare.have_same_plan.Given as goal

abbrev pub invariant-steps : goal.invariant-steps
invariant-steps l = Compared l.fn.first l.fn.second l.first l.second l.same

abbrev pub decreases-steps : goal.decreases-steps
decreases-steps l = length l.first.rest
