-- Guards that give a value.

use Rattle.std.proofs.Common.{◌≡◌, Bool, true, false, Some, refl}
use Rattle.pddl_syntax.specs.Optional.{guard}

-- a guard that gives a value held
pub guard_held : {A : Type 0} (test : Bool) (value found : A) → guard test (Some value) ≡ Some found → (test ≡ true) × (value ≡ found)
unfolding guard
guard_held true value found h = (refl, cc)
guard_held false value found h = cc
