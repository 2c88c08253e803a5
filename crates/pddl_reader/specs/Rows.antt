-- Initial atoms that are written as names with a single space between each two.

use Rattle.std.specs.Prelude.{ℕ, Bool, true, false, List, [], ◌∷◌, Option, map}
use Rattle.pddl_words.specs.Words.{folded}
use Rattle.strips_task.specs.Names.{number_named}
use Rattle.pddl_reader.specs.Declarations.{Known}

-- the number of the predicate or of the object that a word of a row names
abbrev pub row_number : Known → Bool → List ℕ → Option ℕ
row_number known true word = number_named known.predicates (folded word)
row_number known false word = number_named known.objects (folded word)

-- the numbers of what the words of a row name: the first word names a predicate, the others objects
abbrev pub row_numbers : Known → List (List ℕ) → List (Option ℕ)
row_numbers known [] = []
row_numbers known (predicate ∷ terms) = row_number known true predicate ∷ map (row_number known false) terms
