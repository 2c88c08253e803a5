-- Numbers as plans and domains write them: digits, and perhaps a point and more digits (this validator's choice of the usual format of planners).

use Rattle.std.specs.Prelude.{ℕ, ◌+◌, ◌-◌, ◌*◌, ◌^◌, ◌<◌, ◌≤◌, List, [], ◌∷◌, ◌++◌, length, fold, All, IsTrue}
use Rattle.std.specs.Char.{is_ascii_digit}

-- a number as it is written: its digits before the point and those after it, of which there are none if it has no point
pub record Decimal : Type 0 where
  pub whole : List ℕ
  pub fraction : List ℕ

-- a digit of ASCII
abbrev pub IsDigit : ℕ → Type 0
IsDigit b = IsTrue (is_ascii_digit b)

-- there are 1 to 9 digits, and, if there is a point, 1 to 9 digits after it
pub record IsDecimal (number : Decimal) : Type 0 where
  pub whole : All IsDigit number.whole
  pub some : 0 < length number.whole
  pub few : length number.whole ≤ 9
  pub fraction : All IsDigit number.fraction
  pub few_behind : length number.fraction ≤ 9

-- a point (46) and the digits after it, or nothing
abbrev pub behind_whole : List ℕ → List ℕ
behind_whole [] = []
behind_whole (digit ∷ digits) = 46 ∷ digit ∷ digits

-- the bytes of a number
abbrev pub decimal_bytes : Decimal → List ℕ
decimal_bytes number = number.whole ++ behind_whole number.fraction

-- the number that digits write; `0` is 48
abbrev pub digits_value : List ℕ → ℕ
digits_value digits = fold (λ value digit. value * 10 + (digit - 48)) 0 digits

-- the value of a number, in billionths
abbrev pub billionths : Decimal → ℕ
billionths number = digits_value number.whole * 10 ^ 9 + digits_value number.fraction * 10 ^ (9 - length number.fraction)
