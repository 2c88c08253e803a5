-- The kinds of words in PDDL, and when two words are the same.

use Rattle.std.specs.Prelude.{ℕ, Bool, false, List, [], ◌∷◌, ◌==◌, ◌&&◌, if◌then◌else◌}
use Rattle.std.specs.Str.{bytes_eq}
use Rattle.pddl_words.specs.declared.WordKind.{WordKind}
use Rattle.pddl_words.specs.declared.WordKind.TheVariants.{Name, Variable, Keyword, Dash, Other}
use Rattle.pddl_words.specs.Words.{is_name, folded}

-- whether the word is this mark and then a name
abbrev pub is_marked_name : ℕ → List ℕ → Bool
is_marked_name mark [] = false
is_marked_name mark (b ∷ bytes) = b == mark && is_name bytes

-- a variable is `?` (63) and a name, a keyword is `:` (58) and a name, and `-` (45) alone is the dash of typed lists
unfoldable pub kind_of_word : List ℕ → WordKind
kind_of_word word =
    if is_name word then Name
    else (if is_marked_name 63 word then Variable
    else (if is_marked_name 58 word then Keyword
    else (if bytes_eq word (45 ∷ []) then Dash
    else Other)))

-- two words are the same if they are so in lower case
abbrev pub is_same_word : List ℕ → List ℕ → Bool
is_same_word a b = bytes_eq (folded a) (folded b)
