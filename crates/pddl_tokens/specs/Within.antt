-- Where the pieces of a text are.

use Rattle.std.specs.Prelude.{ℕ, ◌<◌, ◌≤◌, List, [], ◌∷◌}
use Rattle.pddl_tokens.specs.Tokens.{Piece, token, bad}

-- a piece lies within a text of this length
abbrev pub IsWithin : ℕ → Piece → Type 0
IsWithin size (bad at) = at < size
IsWithin size (token kind span bytes) = (span.start < span.end) × (span.end ≤ size)

-- each of the pieces lies within a text of this length
abbrev pub AreWithin : ℕ → List Piece → Type 0
AreWithin size [] = Unit {0}
AreWithin size (p ∷ ps) = IsWithin size p × AreWithin size ps
