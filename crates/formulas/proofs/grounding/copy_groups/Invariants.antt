use Rattle.std.proofs.Common.{◌≡◌, take}
use Rattle.formulas.proofs.grounding.copy_groups.Given as goal

abbrev pub invariant-loop-group : goal.invariant-loop-group
invariant-loop-group l = l.copies.items ≡ take l.group-index l.groups
