use Rattle.std.proofs.Common.{◌≡◌, length}
use Rattle.strips_judge.specs.Listing.{AreLists}
use Rattle.strips_judge.proofs.candidates.list_objects.Given as goal

abbrev pub invariant-loop-number : goal.invariant-loop-number
invariant-loop-number l = (length l.lists.items ≡ l.number) × AreLists l.task l.lists.items
