-- Bytes as one number.

use Rattle.std.specs.Prelude.{◌+◌, ◌*◌, ℕ, List, [], ◌∷◌}

-- the number whose digits to the base 256 are these, the lowest first
abbrev pub joined : List ℕ → ℕ
joined [] = 0
joined (byte ∷ bytes) = byte + 256 * joined bytes
