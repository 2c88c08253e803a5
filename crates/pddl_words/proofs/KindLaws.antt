-- What callers use of the kinds of words.

use Rattle.std.proofs.Common.{◌≡◌, ℕ, true, List, ◌↔◌, arith}
use Rattle.pddl_words.specs.declared.WordKind.TheVariants.{Name}
use Rattle.pddl_words.specs.Words.{is_name}
use Rattle.pddl_words.specs.Kinds.{kind_of_word}

-- a word is of the kind of names exactly where it is a name
pub kind_of_word-name : (word : List ℕ) → (kind_of_word word ≡ Name) ↔ (is_name word ≡ true)
unfolding kind_of_word
kind_of_word-name word = grind arith
