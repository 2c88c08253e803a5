-- The trees of a text, as a walk at its start sees them.

use Rattle.std.proofs.Common.{◌≡◌, ℕ, List, refl}
use Rattle.pddl_tokens.specs.Tokens.{pieces}
use Rattle.pddl_syntax.specs.Levels.{here, trees}

pub trees_here : (text : List ℕ) → trees text ≡ (here (pieces text)).top
unfolding trees
trees_here text = refl
