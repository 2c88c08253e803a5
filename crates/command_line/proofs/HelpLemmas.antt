-- Whether an option among some words asks for help, word by word.

use Rattle.std.proofs.Common.{◌≡◌, ℕ, true, false, List, [], ◌∷◌, codes, bytes_eq, refl}
use Rattle.command_line.specs.Words.{has_help, is_help}

-- none of no words does
pub help_in_none : has_help [] ≡ false
unfolding has_help
help_in_none = refl

-- after two dashes there are no options
pub help_ends : (word : List ℕ) (words : List (List ℕ)) → bytes_eq word (codes "--") ≡ true → has_help (word ∷ words) ≡ false
unfolding has_help
help_ends word words ends = rw ends refl

-- this one does
pub help_here : (word : List ℕ) (words : List (List ℕ)) → bytes_eq word (codes "--") ≡ false → is_help word ≡ true → has_help (word ∷ words) ≡ true
unfolding has_help
help_here word words goes here = rw (goes, here) refl

-- this one does not
pub help_later : (word : List ℕ) (words : List (List ℕ)) → bytes_eq word (codes "--") ≡ false → is_help word ≡ false → has_help (word ∷ words) ≡ has_help words
unfolding has_help
help_later word words goes other = rw (goes, other) refl

pub ruleset help_steps = (help_in_none, help_ends, help_here, help_later)
