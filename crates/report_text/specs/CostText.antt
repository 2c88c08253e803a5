-- The text of a cost: a number of billionths as a decimal (this validator's choice).

use Rattle.std.specs.Prelude.{ℕ, zero, suc, ◌+◌, ◌^◌, ◌/◌, ◌%◌, ◌==◌, List, [], ◌∷◌, ◌++◌, codes, decimal, if◌then◌else◌}
use Rattle.plan_cost.specs.declared.costs.Cost.{Cost}
use Rattle.plan_cost.specs.declared.costs.Cost.TheVariants.{NotCounted, Undefined, Billionths}

-- the last digits of a number, as many as the first number says, with zeros in front if it has fewer: the last five of 325 are `00325`
unfoldable pub last_digits : ℕ → ℕ → List ℕ
last_digits zero number = []
last_digits (suc index) number = (48 + number / 10 ^ index % 10) ∷ last_digits index number

-- a digit in front of others; a zero with none after it is left out
abbrev pub unless_end_zero : ℕ → List ℕ → List ℕ
unless_end_zero digit [] = if digit == 48 then [] else digit ∷ []
unless_end_zero digit (next ∷ digits) = digit ∷ next ∷ digits

-- digits without the zeros at their end
unfoldable pub without_end_zeros : List ℕ → List ℕ
without_end_zeros [] = []
without_end_zeros (digit ∷ digits) = unless_end_zero digit (without_end_zeros digits)

-- the point and what follows it, for a fraction in billionths: nothing if it is 0
abbrev pub fraction_text : ℕ → List ℕ
fraction_text fraction = if fraction == 0 then [] else codes "." ++ without_end_zeros (last_digits 9 fraction)

-- a number of billionths as a decimal: `12`, `0.5`, `3.25`
abbrev pub billionths_text : ℕ → List ℕ
billionths_text billionths = decimal (billionths / 1000000000) ++ fraction_text (billionths % 1000000000)

-- a cost at the end of a line: nothing if costs are not counted, and `-` if it is undefined
abbrev pub cost_text : Cost → List ℕ
cost_text NotCounted = []
cost_text Undefined = codes " cost -"
cost_text (Billionths billionths) = codes " cost " ++ billionths_text billionths
