-- What a cursor finds first from an offset on.

use Rattle.std.specs.Prelude.{◌≡◌, ℕ, ◌-◌, ◌<◌, ◌≤◌, List, [], ◌∷◌, length, take, drop}
use Rattle.pddl_tokens.specs.declared.scan.Lexeme.{Lexeme}
use Rattle.pddl_tokens.specs.declared.scan.Lexeme.TheVariants.{End, Bad, Token}
use Rattle.pddl_tokens.specs.Tokens.{Piece, token, bad, span, pieces_from, between}

-- the pieces of a text from an offset between tokens on
abbrev pub pieces_at : List ℕ → ℕ → List Piece
pieces_at text at = pieces_from between at (drop at text)

-- what comes first in the text from `at` on
abbrev pub IsLexeme : Lexeme → List ℕ → ℕ → Type 0
IsLexeme End text at = pieces_at text at ≡ []
IsLexeme (Bad found) text at = (pieces_at text at ≡ bad found ∷ []) × (found < length text)
IsLexeme (Token kind start end) text at =
    (pieces_at text at ≡ token kind (span start end) (take (end - start) (drop start text)) ∷ pieces_at text end)
    × (start ≤ end) × (end ≤ length text)
