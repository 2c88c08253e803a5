-- The words of PDDL: what a name is, and how case is folded (PDDL 2.1, Fox and Long 2003, appendix A: case is not significant).

use Rattle.std.specs.Prelude.{ℕ, Bool, false, List, [], ◌∷◌, ◌==◌, ◌||◌, ◌&&◌}
use Rattle.std.specs.List.{list_all}
use Rattle.std.specs.Char.{is_ascii_alphabetic, is_ascii_alphanumeric}
use Rattle.std.specs.Str.{str_to_ascii_lowercase}

-- a byte that may follow the first letter of a name: a letter, a digit, `-` or `_`
abbrev pub is_name_byte : ℕ → Bool
is_name_byte b = is_ascii_alphanumeric b || (b == 45 || b == 95)

-- a name begins with a letter and goes on with letters, digits, `-` and `_`
unfoldable pub is_name : List ℕ → Bool
is_name [] = false
is_name (b ∷ bytes) = is_ascii_alphabetic b && list_all is_name_byte bytes

-- the word in lower case
abbrev pub folded : List ℕ → List ℕ
folded word = str_to_ascii_lowercase word
