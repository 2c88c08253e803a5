-- The value of an option among some words, word by word.

use Rattle.std.proofs.Common.{◌≡◌, ℕ, true, false, List, [], ◌∷◌, Some, None, codes, bytes_eq, refl}
use Rattle.command_line.specs.Words.{first_word, joined_value, value_of}

-- no words give no value
pub value_in_none : (option : List ℕ) → value_of option [] ≡ None
unfolding value_of
value_in_none option = refl

-- after two dashes there are no options
pub value_ends : (option word : List ℕ) (words : List (List ℕ)) → bytes_eq word (codes "--") ≡ true → value_of option (word ∷ words) ≡ None
unfolding value_of
value_ends option word words ends = rw ends refl

-- the option itself is followed by its value
pub value_follows : (option word : List ℕ) (words : List (List ℕ)) → bytes_eq word (codes "--") ≡ false → bytes_eq word option ≡ true
    → value_of option (word ∷ words) ≡ first_word words
unfolding value_of
value_follows option word words goes here = rw (goes, here) refl

-- the option may have its value in the same word
pub value_joined : (option word value : List ℕ) (words : List (List ℕ)) → bytes_eq word (codes "--") ≡ false → bytes_eq word option ≡ false
    → joined_value option word ≡ Some value → value_of option (word ∷ words) ≡ Some value
unfolding value_of
value_joined option word value words goes other joined = rw (goes, other, joined) refl

-- another word is passed over
pub value_later : (option word : List ℕ) (words : List (List ℕ)) → bytes_eq word (codes "--") ≡ false → bytes_eq word option ≡ false
    → joined_value option word ≡ None → value_of option (word ∷ words) ≡ value_of option words
unfolding value_of
value_later option word words goes other joined = rw (goes, other, joined) refl

pub ruleset value_steps = (value_in_none, value_ends, value_follows, value_joined, value_later)
