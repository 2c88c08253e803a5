use Rattle.std.proofs.Common.{length}
use Rattle.explanations.proofs.walk.take_steps.Given as goal

abbrev pub decreases-steps : goal.decreases-steps
decreases-steps l = length l.walk.rest
