-- Where an object fits: its one type is below one of the alternatives.

use Rattle.std.proofs.Common.{◌≡◌, ◌≤◌, ◌<◌, ℕ, Bool, true, false, ◌&&◌, ◌||◌, List, [], ◌∷◌, refl, ◌∙◌, length, get_or, arith}
use Rattle.std.specs.List.{list_any}
use Rattle.strips_task.specs.Types.{is_below, fits}

and_true : (b : Bool) → (b && true) ≡ b
and_true true = refl
and_true false = refl

or_false : (b : Bool) → (b || false) ≡ b
or_false true = refl
or_false false = refl

pub fits-one : (parents alternatives : List ℕ) (type : ℕ) → fits parents (type ∷ []) alternatives ≡ list_any (is_below parents type) alternatives
unfolding fits
fits-one parents alternatives type = and_true (list_any (is_below parents type) alternatives)

-- there is only one alternative
pub fits-only : (parents alternatives : List ℕ) (type : ℕ) → 1 ≤ length alternatives → length alternatives < 2
    → fits parents (type ∷ []) alternatives ≡ is_below parents type (get_or alternatives 0 0)
fits-only parents [] type some few = absurd (omega (arith, some))
fits-only parents (only ∷ []) type some few = fits-one parents (only ∷ []) type ∙ or_false (is_below parents type only)
fits-only parents (only ∷ second ∷ others) type some few = absurd (omega (arith, few))
