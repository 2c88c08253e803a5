use Rattle.std.proofs.Common.{◌≡◌, drop}
use Rattle.std.specs.Cmp.Lexicographic.{pointwise}
use Rattle.formulas.specs.Equality.{tree_eq}
use Rattle.formulas.proofs.equality.+same.Given as goal

-- The rest of the lists decides.
abbrev pub invariant-are_all_same-loop-i : goal.invariant-are_all_same-loop-i
invariant-are_all_same-loop-i l = pointwise tree_eq l.formulas l.others ≡ pointwise tree_eq (drop l.i l.formulas) (drop l.i l.others)
