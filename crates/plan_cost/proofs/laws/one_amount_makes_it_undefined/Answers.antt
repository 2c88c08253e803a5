use Rattle.std.proofs.Common.{Some, ap}
use Rattle.plan_cost.specs.Costs.{added, sum_of, step_amounts}
use Rattle.strips_task.specs.Values.{initial_cost}
use Rattle.std.specs.List.{flat_map}
use Rattle.plan_cost.proofs.Sums.{undefined_by_one, one_is_undefined, undefined_rest}
use Rattle.plan_cost.proofs.laws.one_amount_makes_it_undefined.Goals as goal

pub returns : goal.returns
returns c =
    let amounts = flat_map (step_amounts c.args._task.now c.args._costs.now) c.args._steps.now in (
      λ e. one_is_undefined amounts (undefined_rest (initial_cost c.args._costs.now) (sum_of amounts) e),
      λ one. ap (added (Some (initial_cost c.args._costs.now))) (undefined_by_one amounts one),
    )
