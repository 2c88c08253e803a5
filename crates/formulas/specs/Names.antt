-- Names as they are stored.

use Rattle.std.specs.Prelude.{◌≡◌, ℕ, true, List}
use Rattle.pddl_words.specs.Words.{is_name, folded}

-- a name of PDDL in lower case, as tables keep it
pub record IsStoredName (word : List ℕ) : Type 0 where
  pub in_lower_case : folded word ≡ word
  pub named : is_name word ≡ true
