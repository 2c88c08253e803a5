use Rattle.std.proofs.Common.{length}
use Rattle.explanations.proofs.remarks.domain_named.Given as goal

abbrev pub decreases-tokens : goal.decreases-tokens
decreases-tokens l = length l.cursor
