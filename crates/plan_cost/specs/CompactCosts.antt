-- Costs in two halves of 64 bits.

use Rattle.std.specs.Prelude.{ℕ, ◌+◌, ◌-◌, ◌*◌, ◌^◌, ◌<◌, ◌==◌, ⊤, if◌then◌else◌}
use Rattle.plan_cost.specs.declared.costs.Cost.{Cost}
use Rattle.plan_cost.specs.declared.costs.Cost.TheVariants.{NotCounted, Undefined, Billionths}

-- the cost that two halves stand for; the two largest upper halves stand for costs that are no numbers
abbrev pub cost_of_halves : ℕ → ℕ → Cost
cost_of_halves high low =
    if high == 2 ^ 64 - 1 then NotCounted else if high == 2 ^ 64 - 2 then Undefined else Billionths (high * 2 ^ 64 + low)

-- a cost that fits in two halves
abbrev pub IsCompact : Cost → Type 0
IsCompact NotCounted = ⊤
IsCompact Undefined = ⊤
IsCompact (Billionths billionths) = billionths < 2 ^ 127
