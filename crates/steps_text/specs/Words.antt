-- The words of a line of steps (this validator's choice).

use Rattle.std.specs.Prelude.{ℕ, ◌-◌, Bool, ◌||◌, ◌==◌, not, List, length, take, drop}
use Rattle.std.specs.List.{list_all, position_or_len, suffix_len}

-- a space (32) or a tab (9), which separate words
abbrev pub is_space : ℕ → Bool
is_space b = b == 32 || b == 9

-- a byte that is neither a space nor a tab
abbrev pub is_no_space : ℕ → Bool
is_no_space b = not (is_space b)

-- the line without the CRs (13) at its end
unfoldable pub without_crs : List ℕ → List ℕ
without_crs line = take (length line - suffix_len (λ b. b == 13) line) line

-- the line without the spaces and tabs before its first word
unfoldable pub without_spaces : List ℕ → List ℕ
without_spaces line = drop (position_or_len is_no_space line) line

-- the first word of a line; empty if the line has none
unfoldable pub first_word : List ℕ → List ℕ
first_word line = take (position_or_len is_space (without_spaces line)) (without_spaces line)

-- what follows the first word
unfoldable pub behind_word : List ℕ → List ℕ
behind_word line = drop (position_or_len is_space (without_spaces line)) (without_spaces line)

-- the line has no word
abbrev pub is_bare : List ℕ → Bool
is_bare line = list_all is_space line
