-- The tokens of a text (PDDL 2.1, Fox and Long 2003, appendix A), and its first bad byte.

use Rattle.std.specs.Prelude.{◌≡◌, ℕ, ◌+◌, ◌^◌, ◌<◌, List, [], ◌∷◌, ◌++◌, Option, Some, None, Result, Ok, Err, take}
use Rattle.std.specs.List.{prefix_len}
use Rattle.pddl_tokens.specs.declared.bytes.ByteClass.{ByteClass}
use Rattle.pddl_tokens.specs.declared.bytes.ByteClass.TheVariants as c
use Rattle.pddl_tokens.specs.declared.spans.Span.{Span}
use Rattle.pddl_tokens.specs.declared.spans.Token.{Token}
use Rattle.pddl_tokens.specs.declared.spans.TokenKind.{TokenKind}
use Rattle.pddl_tokens.specs.declared.spans.TokenKind.TheVariants.{Left, Right, Word}
use Rattle.pddl_tokens.specs.declared.spans.BadByte.{BadByte}
use Rattle.pddl_tokens.specs.Bytes.{class_of, is_word_byte}

-- a piece of a text: a token with its span and its bytes, or the first bad byte, after which nothing is read
pub data Piece : Type 0 where
  token : TokenKind → Span → List ℕ → Piece
  bad : ℕ → Piece

-- where a walk is in a text: between tokens, in a word, in a comment, or after the first bad byte
pub data ScanState : Type 0 where
  between : ScanState
  in_word : ScanState
  in_comment : ScanState
  stopped : ScanState

-- the half-open range from `start` to `end`
abbrev pub span : ℕ → ℕ → Span
span start end = record { start = start; end = end }

-- where a walk is after a byte outside comments
abbrev pub state_outside : ByteClass → ScanState
state_outside c.WordByte = in_word
state_outside c.Semicolon = in_comment
state_outside c.Bad = stopped
state_outside _ = between

-- where a walk is after a byte in a comment, which ends with its line's LF
abbrev pub state_in_comment : ByteClass → ScanState
state_in_comment c.LineEnd = between
state_in_comment _ = in_comment

-- where a walk is after a byte
abbrev pub state_after : ScanState → ByteClass → ScanState
state_after between class = state_outside class
state_after in_word class = state_outside class
state_after in_comment class = state_in_comment class
state_after stopped class = stopped

-- the word at the front of the bytes, if no byte of a word is before them: the longest run of bytes of words
abbrev pub word_at : ℕ → List ℕ → Piece
word_at at bytes =
    let n = prefix_len is_word_byte bytes in
    token Word (span at (at + n)) (take n bytes)

-- the piece other than a word that the first byte makes outside comments, if it makes one
abbrev pub mark_at : ByteClass → ℕ → List ℕ → List Piece
mark_at c.Left at bytes = token Left (span at (at + 1)) (take 1 bytes) ∷ []
mark_at c.Right at bytes = token Right (span at (at + 1)) (take 1 bytes) ∷ []
mark_at c.Bad at bytes = bad at ∷ []
mark_at _ at bytes = []

-- the piece that the first byte begins between tokens, if it begins one
abbrev pub piece_at : ByteClass → ℕ → List ℕ → List Piece
piece_at c.WordByte at bytes = word_at at bytes ∷ []
piece_at class at bytes = mark_at class at bytes

-- the piece that begins with the first byte, if one does, by where the walk is
abbrev pub begins : ScanState → ByteClass → ℕ → List ℕ → List Piece
begins between class at bytes = piece_at class at bytes
begins in_word class at bytes = mark_at class at bytes
begins in_comment class at bytes = []
begins stopped class at bytes = []

-- the pieces of the bytes, which are at the offset `at` of their text, by where the walk is
unfoldable pub pieces_from : ScanState → ℕ → List ℕ → List Piece
pieces_from state at [] = []
pieces_from state at (b ∷ bytes) =
    begins state (class_of b) at (b ∷ bytes) ++ pieces_from (state_after state (class_of b)) (at + 1) bytes

-- the tokens of a text in order, up to its first bad byte outside comments, which is the last piece if there is one
unfoldable pub pieces : List ℕ → List Piece
pieces text = pieces_from between 0 text

-- a token as a piece
abbrev pub piece_of : Token → Piece
piece_of t = token t.kind t.span t.text.now

-- what one step of a cursor answers, where `old` and `new` are the pieces still to come before and after it
abbrev pub Takes : Result (Option Token) BadByte → List Piece → List Piece → Type 0
Takes (Ok (Some t)) old new = old ≡ piece_of t ∷ new
Takes (Ok None) old new = (old ≡ []) × (new ≡ [])
Takes (Err byte) old new = (old ≡ bad byte.at ∷ []) × (new ≡ old) × (byte.at < 2 ^ 31)
