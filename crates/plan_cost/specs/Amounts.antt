-- Kinds of amounts.

use Rattle.std.specs.Prelude.{Bool, true, false}
use Rattle.strips_task.specs.declared.amounts.Amount.{Amount}
use Rattle.strips_task.specs.declared.amounts.Amount.TheVariants.{Number, Function}

-- whether an amount is a number
abbrev pub is_number : Amount → Bool
is_number (Number amount) = true
is_number (Function function terms) = false
