use Rattle.std.proofs.Common.{length}
use Rattle.explanations.proofs.steps.push_step_list.Given as goal

abbrev pub decreases-tokens : goal.decreases-tokens
decreases-tokens l = length l.cursor
