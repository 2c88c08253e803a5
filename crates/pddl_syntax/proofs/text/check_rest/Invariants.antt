use Rattle.std.proofs.Common.{◌≡◌, ◌-◌, ◌≤◌, length}
use Rattle.pddl_syntax.specs.Trees.{fault_after}
use Rattle.pddl_syntax.proofs.text.check_rest.Given as goal

abbrev pub invariant-bytes : goal.invariant-bytes
invariant-bytes l = record {
  so_far : fault_after l.text l.at l.lists ≡ fault_after l.text l.from l.depth;
  depth : l.lists ≤ 64;
  within : l.at ≤ length l.text;
}

abbrev pub decreases-bytes : goal.decreases-bytes
decreases-bytes l = length l.text - l.at
