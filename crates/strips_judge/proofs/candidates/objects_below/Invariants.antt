use Rattle.std.proofs.Common.{◌≡◌, ◌∷◌, [], filter}
use Rattle.std.specs.List.{range_with_len}
use Rattle.strips_judge.specs.Fitting.{object_fits}
use Rattle.strips_judge.proofs.candidates.objects_below.Given as goal

abbrev pub invariant-loop-object : goal.invariant-loop-object
invariant-loop-object l = l.list.items ≡ filter (object_fits l.task (l.number ∷ [])) (range_with_len 0 l.object)
