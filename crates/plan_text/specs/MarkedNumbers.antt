-- How the number of a stamp or of brackets is read.

use Rattle.std.specs.Prelude.{ℕ, ◌==◌, List, [], ◌∷◌, reverse, Option, None, if◌then◌else◌}
use Rattle.pddl_words.specs.DecimalReading.{billionths_of}

-- the number before a mark, by the bytes from the last on
abbrev pub number_from_end : ℕ → List ℕ → Option ℕ
number_from_end mark [] = None
number_from_end mark (last ∷ bytes) = if last == mark then billionths_of (reverse bytes) else None

-- the number before a mark that ends a word
unfoldable pub number_before : ℕ → List ℕ → Option ℕ
number_before mark word = number_from_end mark (reverse word)
