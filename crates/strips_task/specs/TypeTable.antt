-- The table that gives the order of types without a walk.

use Rattle.std.specs.Prelude.{◌≡◌, ℕ, ◌+◌, ◌*◌, ◌<◌, ◌≤◌, true, List, length}
use Rattle.std.specs.List.{list_any}
use Rattle.bit_rows.specs.Rows.{row_has}
use Rattle.strips_task.specs.Types.{is_within, is_below}

-- the rows of all types, one after the other, of 1,088 bits each: a type's row has a bit for each type, which says whether that one is below it
pub record IsTable (parents table : List ℕ) : Type 0 where
  pub few : length parents ≤ 1088
  pub room : 17 * length parents ≤ length table
  pub marks : (sub sup : ℕ) → sub < length parents → sup < length parents
      → row_has table (sup * 1088 + sub) ≡ is_within parents (length parents) sub sup

-- a list of types has a table, or no words of one
abbrev pub MayHaveTable : List ℕ → List ℕ → Type 0
MayHaveTable parents table = 0 < length table → IsTable parents table

-- each type has a bit in these words, and if it is set, the type is below one of the types `sups`
pub record AreJoined (parents table joined sups : List ℕ) : Type 0 where
  pub is_table : IsTable parents table
  pub all : length parents ≤ 64 * length joined
  pub marks : (k : ℕ) → k < length parents → row_has joined k ≡ true → list_any (is_below parents k) sups ≡ true
