use Rattle.std.proofs.Common.{◌≡◌, take}
use Rattle.std.specs.Prelude.{fold}
use Rattle.std.specs.List.{flat_map}
use Rattle.formulas.specs.Hashing.{tree_fed}
use Rattle.formulas.proofs.hashing.+feed.Given as goal

abbrev pub invariant-feed_all-loop-part : goal.invariant-feed_all-loop-part
invariant-feed_all-loop-part g l = l.state ≡ fold g.H.Hasher.write l.initial.state (flat_map tree_fed (take l.part-index l.parts))
