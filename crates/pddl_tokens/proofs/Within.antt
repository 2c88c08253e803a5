-- The pieces of a text lie in it, for callers that ask for the line of a piece.

use Rattle.std.proofs.Common.{ℕ, ◌<◌, ◌≤◌, List, [], ◌∷◌, length, arith}
use Rattle.pddl_tokens.specs.declared.spans.TokenKind.{TokenKind}
use Rattle.pddl_tokens.specs.declared.spans.TokenKind.TheVariants.{Left, Right, Word}
use Rattle.pddl_tokens.specs.Tokens.{Piece, token, bad, pieces}
use Rattle.pddl_tokens.specs.Cut.{IsTokenAt, IsCutInto}
use Rattle.pddl_tokens.specs.Within.{AreWithin}
use Rattle.pddl_tokens.proofs.CutLaws.{cut_into_pieces}

within_at : (text : List ℕ) (kind : TokenKind) (start end : ℕ) → IsTokenAt kind text start end → (start < end) × (end ≤ length text)
within_at text Left start end is = (omega (arith, is.one), is.within)
within_at text Right start end is = (omega (arith, is.one), is.within)
within_at text Word start end is = (is.not_empty, is.within)

within_cut : (text : List ℕ) (ps : List Piece) (from : ℕ) → IsCutInto text from ps → AreWithin (length text) ps
within_cut text [] from cut = tt
within_cut text (bad at ∷ []) from cut = (cut.1.within, tt)
within_cut text (bad at ∷ p ∷ ps) from cut = absurd (let none = cut.3 in cc)
within_cut text (token kind span bytes ∷ ps) from cut = (within_at text kind span.start span.end cut.1, within_cut text ps span.end cut.4)

-- the pieces of a text stand in it
pub pieces_within : (text : List ℕ) → AreWithin (length text) (pieces text)
pieces_within text = within_cut text (pieces text) 0 (cut_into_pieces text)
