-- Lists of words in parentheses, with a space between each two and nothing else.

use Rattle.std.specs.Prelude.{◌≡◌, ℕ, ◌+◌, Bool, false, ◌&&◌, List, [], ◌∷◌, ◌++◌, length, take, All, IsTrue}
use Rattle.std.specs.List.{list_all}
use Rattle.pddl_words.specs.SpacedWords.{words_of}
use Rattle.pddl_tokens.specs.declared.spans.TokenKind.TheVariants.{Left, Right, Word}
use Rattle.pddl_tokens.specs.Bytes.{is_word_byte}
use Rattle.pddl_tokens.specs.Tokens.{Piece, token, span}

-- a word: one byte of words or more
abbrev pub is_word : List ℕ → Bool
is_word [] = false
is_word (b ∷ bytes) = is_word_byte b && list_all is_word_byte bytes

-- a row of bytes is plain if its spaces separate words, and it has nothing else
abbrev pub IsPlain : List ℕ → Type 0
IsPlain row = All (λ word. IsTrue (is_word word)) (words_of row)

-- the pieces of words that follow each other from an offset on, with one byte between each two
unfoldable pub word_pieces : ℕ → List (List ℕ) → List Piece
word_pieces at [] = []
word_pieces at (word ∷ words) = token Word (span at (at + length word)) word ∷ word_pieces (at + length word + 1) words

-- the pieces of a plain row in parentheses: `(` (40) is at this offset, and `)` (41) follows the row
abbrev pub range_pieces : ℕ → List ℕ → List Piece
range_pieces at row =
    token Left (span at (at + 1)) (40 ∷ [])
    ∷ (word_pieces (at + 1) (words_of row) ++ token Right (span (at + 1 + length row) (at + 1 + length row + 1)) (41 ∷ []) ∷ [])

-- a text begins with a list: `(` (40), what is in it, and `)` (41)
abbrev pub BeginsWithList : List ℕ → List ℕ → Type 0
BeginsWithList text inside = take (length inside + 2) text ≡ 40 ∷ (inside ++ 41 ∷ [])
