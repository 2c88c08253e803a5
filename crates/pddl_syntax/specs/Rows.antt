-- Atoms that are written as words with a single space between each two.

use Rattle.std.specs.Prelude.{◌≡◌, ℕ, ◌++◌, Bool, true, false, not, List, [], ◌∷◌, IsTrue}
use Rattle.std.specs.List.{list_all}
use Rattle.pddl_words.specs.SpacedWords.{is_space, words_of}
use Rattle.pddl_words.specs.Words.{is_name}
use Rattle.pddl_tokens.specs.declared.scan.ParenRange.{ParenRange}
use Rattle.pddl_tokens.specs.ParenRanges.{IsPlain, range_pieces}
use Rattle.pddl_tokens.specs.Tokens.{Piece}
use Rattle.pddl_syntax.specs.declared.heads.FormulaHead.{FormulaHead}
use Rattle.pddl_syntax.specs.declared.heads.FormulaHead.TheVariants as formula
use Rattle.pddl_syntax.specs.Heads.{formula_head}
use Rattle.pddl_syntax.specs.Levels.{Levels}
use Rattle.pddl_syntax.specs.Syntax.{AtomForm}
use Rattle.pddl_syntax.specs.Trees.{Trees, none, word, list}

-- the words of a row are names
abbrev pub AreNames : List ℕ → Type 0
AreNames row = IsTrue (list_all is_name (words_of row))

-- whether a byte belongs to a word of a row, since it is no space
abbrev pub is_in_word : ℕ → Bool
is_in_word b = not (is_space b)

-- the atom of a predicate and its terms, by their words
abbrev pub atom_of_words : List (List ℕ) → AtomForm
atom_of_words [] = record { predicate = []; terms = [] }
atom_of_words (predicate ∷ terms) = record { predicate = predicate; terms = terms }

-- the atom that a row spells: its first word is the predicate, and the others are the terms
unfoldable pub atom_spelled : List ℕ → AtomForm
atom_spelled row = atom_of_words (words_of row)

-- whether a word with this meaning is a predicate
abbrev pub is_name_head : FormulaHead → Bool
is_name_head formula.Name = true
is_name_head formula.And = false
is_name_head formula.Not = false
is_name_head formula.Reserved = false
is_name_head formula.Other = false

-- whether the first word of a row is a name that is not reserved
unfoldable pub heads_atom : List ℕ → Bool
heads_atom row = is_name_head (formula_head (atom_spelled row).predicate)

-- words one after the other
unfoldable pub word_trees : List (List ℕ) → Trees
word_trees [] = none
word_trees (w ∷ ws) = word w (word_trees ws)

-- if the key of this range is plain, the range comes next
abbrev pub ComesNext : List Piece → ParenRange → Type 0
ComesNext pieces range = IsPlain range.key.now → pieces ≡ range_pieces range.start range.key.now ++ range.rest

-- the walk steps over the list of the words of a row
abbrev pub PassesRow : List ℕ → Levels → Levels → Type 0
PassesRow row old new = (old.top ≡ list (word_trees (words_of row)) new.top) × (new.below ≡ old.below)
