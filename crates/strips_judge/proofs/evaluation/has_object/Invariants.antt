use Rattle.std.proofs.Common.{◌≡◌, [], filter, take}
use Rattle.strips_judge.specs.Fitting.{object_fits}
use Rattle.strips_judge.specs.Listing.{candidates_of}
use Rattle.strips_judge.proofs.evaluation.has_object.Given as goal

abbrev pub invariant-loop-index : goal.invariant-loop-index
invariant-loop-index l = filter (object_fits l.task l.types) (take l.index (candidates_of l.candidates)) ≡ []
