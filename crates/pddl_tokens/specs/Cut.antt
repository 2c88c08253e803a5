-- How a text is cut into tokens, stated without a walk over its bytes (PDDL 2.1, Fox and Long 2003, appendix A).

use Rattle.std.specs.Prelude.{◌≡◌, ◌≢◌, ℕ, ◌+◌, ◌-◌, ◌<◌, ◌≤◌, ◌==◌, ◌||◌, ◌⊎◌, Bool, false, List, [], ◌∷◌, length, slice_index, slice_range, IsTrue, true, not}
use Rattle.pddl_tokens.specs.declared.spans.TokenKind.{TokenKind}
use Rattle.pddl_tokens.specs.declared.spans.TokenKind.TheVariants.{Left, Right, Word}
use Rattle.pddl_tokens.specs.Bytes.{is_other_blank, is_word_byte, class_of}
use Rattle.pddl_tokens.specs.Tokens.{Piece, token, bad}
use Rattle.pddl_tokens.specs.declared.bytes.ByteClass.{ByteClass}
use Rattle.pddl_tokens.specs.declared.bytes.ByteClass.TheVariants.{LineEnd, Blank}

-- a byte is in a comment if there is a `;` (59) at or before it, and no LF (10) from there up to and including the byte
pub record LiesInComment (text : List ℕ) (at : ℕ) : Type 0 where
  pub start : ℕ
  pub before : start ≤ at
  pub semicolon : slice_index text start ≡ 59
  pub same_line : (k : ℕ) → start ≤ k → k ≤ at → slice_index text k ≢ 10

-- a blank is an LF, a space, a tab, a CR, or one of the bytes 11 and 12
abbrev pub is_blank : ℕ → Bool
is_blank b = b == 10 || is_other_blank b

-- there are only blanks and comments from one offset up to another
pub record IsGap (text : List ℕ) (from to : ℕ) : Type 0 where
  pub ordered : from ≤ to
  pub within : to ≤ length text
  pub skipped : (k : ℕ) → from ≤ k → k < to → IsTrue (is_blank (slice_index text k)) ⊎ LiesInComment text k

-- a word is a longest run of bytes of words
pub record IsLongestRun (text : List ℕ) (start end : ℕ) : Type 0 where
  pub not_empty : start < end
  pub within : end ≤ length text
  pub each : (k : ℕ) → start ≤ k → k < end → IsTrue (is_word_byte (slice_index text k))
  pub none_before : 0 < start → is_word_byte (slice_index text (start - 1)) ≡ false
  pub none_behind : end < length text → is_word_byte (slice_index text end) ≡ false

-- one byte, which is this one
pub record IsMark (text : List ℕ) (start end mark : ℕ) : Type 0 where
  pub one : end ≡ start + 1
  pub within : end ≤ length text
  pub is : slice_index text start ≡ mark

-- what a token of each kind is in the text: `(` is 40 and `)` is 41
abbrev pub IsTokenAt : TokenKind → List ℕ → ℕ → ℕ → Type 0
IsTokenAt Left text start end = IsMark text start end 40
IsTokenAt Right text start end = IsMark text start end 41
IsTokenAt Word text start end = IsLongestRun text start end

-- no byte from one offset up to another is in a comment
abbrev pub IsOutsideComments : List ℕ → ℕ → ℕ → Type 0
IsOutsideComments text start end = (k : ℕ) → start ≤ k → k < end → ¬ (LiesInComment text k)

-- a bad byte is no blank and none of the bytes 33 to 126, of which parentheses, `;` and words are made
pub record IsBadByte (text : List ℕ) (at : ℕ) : Type 0 where
  pub within : at < length text
  pub no_blank : is_blank (slice_index text at) ≡ false
  pub not_visible : 33 ≤ slice_index text at → slice_index text at ≤ 126 → ⊥

-- the text from an offset on is cut into these pieces: a gap, a token which is the slice at its span, and so on,
-- up to the end or to the first bad byte outside comments
abbrev pub IsCutInto : List ℕ → ℕ → List Piece → Type 0
IsCutInto text from [] = IsGap text from (length text)
IsCutInto text from (bad at ∷ ps) =
    IsGap text from at × IsBadByte text at × IsOutsideComments text at (at + 1) × (ps ≡ [])
IsCutInto text from (token kind span bytes ∷ ps) =
    IsGap text from span.start × IsTokenAt kind text span.start span.end × IsOutsideComments text span.start span.end
    × (bytes ≡ slice_range text span.start span.end) × IsCutInto text span.end ps

-- whether a class is that of the LF that ends a comment
abbrev pub is_line_end_class : ByteClass → Bool
is_line_end_class LineEnd = true
is_line_end_class _ = false

-- a byte that does not end a comment
abbrev pub is_comment_byte : ℕ → Bool
is_comment_byte b = not (is_line_end_class (class_of b))

-- whether a class is that of blanks, LF among them
abbrev pub is_blank_class : ByteClass → Bool
is_blank_class LineEnd = true
is_blank_class Blank = true
is_blank_class _ = false
