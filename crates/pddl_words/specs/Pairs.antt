-- Rows of names, by each byte and the one before it.

use Rattle.std.specs.Prelude.{◌≡◌, ℕ, ◌+◌, ◌<◌, Bool, true, false, ◌==◌, ◌&&◌, ◌||◌, not, List, slice_index}
use Rattle.std.specs.Char.{is_ascii_alphabetic}
use Rattle.pddl_words.specs.SpacedWords.{is_space}
use Rattle.pddl_words.specs.Words.{is_name_byte}

-- whether a name begins after this byte: a space, or the `(` (40) of a list
unfoldable pub begins_name : ℕ → Bool
begins_name before = is_space before || before == 40

-- whether a row of names may have `b` after `before`
unfoldable pub goes_on : ℕ → ℕ → Bool
goes_on before b = is_ascii_alphabetic b || ((is_name_byte b || is_space b) && not (begins_name before))

-- whether it may not
abbrev pub stops : ℕ → ℕ → Bool
stops before b = not (goes_on before b)

-- of the 32 bytes behind the first of a list, so many go on, and the next one does not, if there is one
pub record GoesOnTo (list : List ℕ) (at : ℕ) : Type 0 where
  pub before : (k : ℕ) → k < 32 → k < at → goes_on (slice_index list k) (slice_index list (k + 1)) ≡ true
  pub end : at < 32 → goes_on (slice_index list at) (slice_index list (at + 1)) ≡ false
