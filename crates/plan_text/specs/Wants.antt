-- What may come next in a plan text.

use Rattle.std.specs.Prelude.{Bool, true, false}
use Rattle.plan_text.specs.declared.want.Want.{Want}
use Rattle.plan_text.specs.declared.want.Want.TheVariants.{Step, Number, Opening, Action, Argument}

-- whether a name may come
abbrev pub takes_name : Want → Bool
takes_name Step = false
takes_name Number = false
takes_name Opening = false
takes_name Action = true
takes_name Argument = true
