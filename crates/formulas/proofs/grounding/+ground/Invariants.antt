use Rattle.std.proofs.Common.{◌≡◌, map, take}
use Rattle.formulas.specs.Grounding.{with_objects}
use Rattle.formulas.proofs.grounding.+ground.Given as goal

abbrev pub invariant-ground_all-loop-formula : goal.invariant-ground_all-loop-formula
invariant-ground_all-loop-formula l = l.copies.items ≡ map (with_objects l.objects l.bound) (take l.formula-index l.formulas)
