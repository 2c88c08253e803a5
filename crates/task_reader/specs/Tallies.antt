-- Tallies: how many things there are of each number.

use Rattle.std.specs.Prelude.{ℕ, ◌+◌, Bool, List, [], ◌∷◌, if◌then◌else◌}

-- how many things have a number that passes the test, if these are the counts for the numbers from one on
abbrev pub tallied : (ℕ → Bool) → ℕ → List ℕ → ℕ
tallied test number [] = 0
tallied test number (count ∷ counts) = (if test number then count else 0) + tallied test (number + 1) counts
