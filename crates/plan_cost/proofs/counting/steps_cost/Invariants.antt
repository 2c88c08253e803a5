use Rattle.std.proofs.Common.{◌+◌, ◌≤◌, ◌*◌, ◌^◌}
use Rattle.plan_cost.specs.Costs.{step_amounts, sum_of, steps_cost}
use Rattle.plan_cost.proofs.Sums.{IsSummed}
use Rattle.plan_cost.proofs.counting.steps_cost.Given as goal

abbrev pub invariant-loop-index : goal.invariant-loop-index
invariant-loop-index l =
    IsSummed (λ step. sum_of (step_amounts l.task l.costs step)) (steps_cost l.task l.costs l.steps) l.sum l.steps l.index
    × (l.sum ≤ 2 ^ 64 + l.index * (32 * 2 ^ 64))
