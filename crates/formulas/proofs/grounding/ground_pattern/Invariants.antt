use Rattle.std.proofs.Common.{◌≡◌, map, take}
use Rattle.formulas.specs.Grounding.{term_with}
use Rattle.formulas.proofs.grounding.ground_pattern.Given as goal

abbrev pub invariant-loop-term : goal.invariant-loop-term
invariant-loop-term l = l.terms ≡ map (term_with l.objects l.bound) (take l.term-index l.term-items)
