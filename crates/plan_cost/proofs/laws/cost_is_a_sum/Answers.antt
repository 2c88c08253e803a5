use Rattle.std.proofs.Common.{Some, ap, ◌∙◌}
use Rattle.plan_cost.specs.Costs.{added, sum_of}
use Rattle.strips_task.specs.Values.{initial_cost}
use Rattle.plan_cost.proofs.Sums.{sum_of-defined}
use Rattle.plan_cost.proofs.laws.cost_is_a_sum.Goals as goal

pub returns : goal.returns
returns c = λ amounts defined. ap (λ l. added (Some (initial_cost c.args._costs.now)) (sum_of l)) defined ∙ ap (added (Some (initial_cost c.args._costs.now))) (sum_of-defined amounts)
