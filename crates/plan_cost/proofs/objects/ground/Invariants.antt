use Rattle.std.proofs.Common.{◌≡◌, [], map, take}
use Rattle.formulas.specs.Meaning.{object_of}
use Rattle.plan_cost.proofs.objects.ground.Given as goal

abbrev pub invariant-loop-term : goal.invariant-loop-term
invariant-loop-term l = (l.atom.pred ≡ l.function) × (l.atom.args ≡ map (object_of l.objects []) (take l.term-index l.terms))
