-- What a guard that gives a value says.

use Rattle.std.proofs.Common.{◌≡◌, Bool, true, false, Option, Some, refl}
use Rattle.pddl_syntax.specs.Optional.{guard}

-- a guard that gives a value held
pub guard_passed : {A : Type 0} (test : Bool) (value : Option A) (found : A) → guard test value ≡ Some found → (test ≡ true) × (value ≡ Some found)
unfolding guard
guard_passed true value found h = (refl, h)
guard_passed false value found h = cc
