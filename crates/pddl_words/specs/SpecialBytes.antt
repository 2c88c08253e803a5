-- Bytes that a check of parentheses does not pass over without a look.

use Rattle.std.specs.Prelude.{ℕ, Bool, ◌==◌, ◌&&◌, ◌||◌, not, nat_le}

-- a parenthesis (40 or 41), a `;` (59), or a byte that is neither LF (10) nor one from the space (32) to `~` (126)
abbrev pub is_special : ℕ → Bool
is_special b = b == 40 || b == 41 || b == 59 || not (b == 10 || (nat_le 32 b && nat_le b 126))
