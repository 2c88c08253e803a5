use Rattle.std.proofs.Common.{◌≡◌, map, take}
use Rattle.formulas.specs.Meaning.{object_of}
use Rattle.strips_judge.proofs.grounding.ground.Given as goal

abbrev pub invariant-loop-term : goal.invariant-loop-term
invariant-loop-term l =
    (l.atom.pred ≡ l.pattern.pred) × (l.atom.args ≡ map (object_of l.objects l.bound) (take l.term-index l.term-items))
