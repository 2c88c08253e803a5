-- What the operations of vectors do with a lane.

use Rattle.std.proofs.Common.{ℕ, ◌+◌, ◌-◌, ◌%◌, ◌^◌, Bool, cond, eqb, ltb}

-- the lane of a comparison: all bits where it holds
abbrev pub flag : Bool → ℕ
flag t = cond t 255 0

abbrev pub equal : ℕ → ℕ → ℕ
equal a b = flag (eqb a b)

abbrev pub below : ℕ → ℕ → ℕ
below a b = flag (ltb a b)

-- a difference, which wraps
abbrev pub less : ℕ → ℕ → ℕ
less a b = (a + (2 ^ 8 - b)) % 2 ^ 8

-- all bits turned
abbrev pub other : ℕ → ℕ
other a = 2 ^ 8 - 1 - a
