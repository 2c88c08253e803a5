use Rattle.std.proofs.Common.{◌≡◌, ◌-◌, ◌≤◌, length}
use Rattle.pddl_syntax.specs.Trees.{fault_after, text_fault}
use Rattle.pddl_syntax.proofs.text.check_short.Given as goal

abbrev pub invariant-passes : goal.invariant-passes
invariant-passes l = record {
  so_far : fault_after l.text l.at l.depth ≡ text_fault l.text;
  depth : l.depth ≤ 64;
  within : l.at ≤ length l.text;
}

abbrev pub decreases-passes : goal.decreases-passes
decreases-passes l = length l.text - l.at
