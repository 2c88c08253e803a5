use Rattle.std.proofs.Common.{◌-◌}
use Rattle.pddl_words.proofs.hashes.KeyedHash.of.Given as goal

abbrev pub decreases-loop-at : goal.decreases-loop-at
decreases-loop-at l = l.last - l.at
