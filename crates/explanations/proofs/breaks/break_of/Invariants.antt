use Rattle.std.proofs.Common.{length}
use Rattle.explanations.proofs.breaks.break_of.Given as goal

abbrev pub decreases-tokens : goal.decreases-tokens
decreases-tokens l = length l.cursor
