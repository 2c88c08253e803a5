use Rattle.std.proofs.Common.{◌≡◌, ◌+◌, ◌-◌, ◌≤◌}
use Rattle.pddl_syntax.specs.Trees.{fault_after}
use Rattle.pddl_syntax.proofs.BlockLemmas.{AreMarked}
use Rattle.pddl_syntax.proofs.text.pass_block.Given as goal

abbrev pub invariant-marks : goal.invariant-marks
invariant-marks l = record {
  so_far : fault_after l.text l.seen l.lists ≡ fault_after l.text l.at l.depth;
  depth : l.lists ≤ 64;
  from : l.at ≤ l.seen;
  within : l.seen ≤ l.at + 32;
  marked : AreMarked l.text l.seen (l.at + 32) l.special;
}

abbrev pub decreases-marks : goal.decreases-marks
decreases-marks l = l.at + 32 - l.seen
