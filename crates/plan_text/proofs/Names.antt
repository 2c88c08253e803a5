-- Words that are names, and others.

use Rattle.std.proofs.Common.{◌≡◌, ℕ, Bool, true, false, List, refl}
use Rattle.pddl_words.specs.declared.WordKind.TheVariants.{Name}
use Rattle.pddl_words.specs.Words.{is_name}
use Rattle.pddl_words.specs.Kinds.{kind_of_word}
use Rattle.pddl_words.proofs.KindLaws.{kind_of_word-name}

no_name_by : (word : List ℕ) (is : Bool) → is_name word ≡ is → (kind_of_word word ≡ Name → ⊥) → is ≡ false
no_name_by word true same other = absurd (other ((kind_of_word-name word).1 same))
no_name_by word false same other = refl

-- a word of another kind is no name
pub no_name : (word : List ℕ) → (kind_of_word word ≡ Name → ⊥) → is_name word ≡ false
no_name word other = no_name_by word (is_name word) refl other
