-- How a number is read.

use Rattle.std.specs.Prelude.{ℕ, ◌+◌, ◌-◌, ◌*◌, ◌^◌, Bool, ◌==◌, ◌&&◌, nat_le, List, length, take, drop, Option, Some, None, if◌then◌else◌}
use Rattle.std.specs.List.{list_all, position}
use Rattle.std.specs.Char.{is_ascii_digit}
use Rattle.pddl_words.specs.Decimals.{digits_value}

-- the number that 1 to 9 digits write
unfoldable pub digits_of : List ℕ → Option ℕ
digits_of bytes = if nat_le 1 (length bytes) && (nat_le (length bytes) 9 && list_all is_ascii_digit bytes) then Some (digits_value bytes) else None

-- the point of a decimal number
abbrev pub is_point : ℕ → Bool
is_point b = b == 46

-- a number by its two parts, and how many digits the second has
abbrev pub of_parts : Option ℕ → Option ℕ → ℕ → Option ℕ
of_parts None part size = None
of_parts (Some whole) None size = None
of_parts (Some whole) (Some part) size = Some (whole * 10 ^ 9 + part * 10 ^ (9 - size))

-- the number of some bytes, by the index of their first point
abbrev pub billionths_by : List ℕ → Option ℕ → Option ℕ
billionths_by bytes None = of_parts (digits_of bytes) (Some 0) 0
billionths_by bytes (Some point) = of_parts (digits_of (take point bytes)) (digits_of (drop (point + 1) bytes)) (length (drop (point + 1) bytes))

-- the number of some bytes, in billionths
unfoldable pub billionths_of : List ℕ → Option ℕ
billionths_of bytes = billionths_by bytes (position is_point bytes)
