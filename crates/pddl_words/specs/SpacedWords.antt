-- Words in a row, with a space between each two.

use Rattle.std.specs.Prelude.{ℕ, Bool, not, ◌==◌, List}
use Rattle.std.specs.List.{slice_split}

-- a space (32)
abbrev pub is_space : ℕ → Bool
is_space b = b == 32

-- what is before, between and after the spaces of a row
abbrev pub words_of : List ℕ → List (List ℕ)
words_of row = slice_split is_space row

-- whether a byte of a row belongs to a word, since it is no space
abbrev pub is_in_word : ℕ → Bool
is_in_word b = not (is_space b)
