-- Rows of bits.

use Rattle.std.specs.Prelude.{◌≡◌, ◌≢◌, ℕ, ◌/◌, ◌%◌, Bool, List, slice_index, nat_eq}
use Rattle.std.specs.Int.{bit_at}

-- whether the bit with this number is set in a row of 64-bit words; past the last word no bit is
abbrev pub row_has : List ℕ → ℕ → Bool
row_has words k = nat_eq (bit_at (slice_index words (k / 64)) (k % 64)) 1

-- the new row has this value at this bit, and otherwise is the same as the old one
pub record ChangesBit (old new : List ℕ) (bit : ℕ) (value : Bool) : Type 0 where
  pub at : row_has new bit ≡ value
  pub others : (k : ℕ) → k ≢ bit → row_has new k ≡ row_has old k
  pub words : (j : ℕ) → j ≢ bit / 64 → slice_index new j ≡ slice_index old j
