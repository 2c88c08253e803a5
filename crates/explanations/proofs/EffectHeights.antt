-- Walks over an effect end: each call is about an effect that is inside.

use Rattle.std.proofs.Common.{◌≡◌, ℕ, ◌<◌, ◌≤◌, List, [], ◌∷◌, length, get_or, zero, suc, arith, ap}
use Rattle.formulas.specs.EffectTree.{EffectTree, effect_parts_of, effect_height, most_effect_height}

-- no effect of a list is higher than the highest
pub no_higher : (effects : List EffectTree) (index : ℕ) (effect : EffectTree) → index < length effects → effect ≡ get_or effects index effect
    → effect_height effect ≤ most_effect_height (effect_parts_of effects)
no_higher [] index effect lt is = absurd (omega (arith, lt))
no_higher (first ∷ effects) zero effect lt is = omega (arith, ap effect_height is)
no_higher (first ∷ effects) (suc index) effect lt is = omega (arith, no_higher effects index effect (omega (arith, lt)) is)
