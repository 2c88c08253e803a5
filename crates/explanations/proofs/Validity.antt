-- Whether all of a list's items pass a test, one item after the other.

use Rattle.std.proofs.Common.{◌≡◌, List, ◌∷◌, Bool, sym}
use Rattle.std.specs.Prelude.{◌&&◌}
use Rattle.std.specs.List.{list_all}
use Rattle.std.proofs.Math.Bool.{and_assoc}

-- what is left to test behind the first item
pub one_more : {X : Type 0} (p : X → Bool) (before passes : Bool) (x : X) (xs rest : List X) → xs ≡ x ∷ rest → passes ≡ p x
    → (before && list_all p xs) ≡ ((before && passes) && list_all p rest)
one_more p before passes x xs rest first test = rw (first, test) (sym (and_assoc before (p x) (list_all p rest)))
