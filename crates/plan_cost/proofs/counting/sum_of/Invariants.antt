use Rattle.std.proofs.Common.{◌≤◌, ◌*◌, ◌^◌, map}
use Rattle.plan_cost.specs.Costs.{amount_of, sum_of}
use Rattle.plan_cost.proofs.Sums.{IsSummed}
use Rattle.plan_cost.proofs.counting.sum_of.Given as goal

abbrev pub invariant-loop-amount : goal.invariant-loop-amount
invariant-loop-amount l =
    IsSummed (amount_of l.values l.objects) (sum_of (map (amount_of l.values l.objects) l.amounts)) l.sum l.amounts l.amount-index
    × (l.sum ≤ l.amount-index * 2 ^ 64)
