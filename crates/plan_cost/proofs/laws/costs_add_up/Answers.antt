use Rattle.std.proofs.Common.{◌∷◌, Some, ap, ◌∙◌}
use Rattle.std.specs.List.{flat_map}
use Rattle.std.proofs.lemmas.List.Concat.{flat_map-append}
use Rattle.plan_cost.specs.Costs.{sum_of, step_amounts}
use Rattle.strips_task.specs.Values.{initial_cost}
use Rattle.plan_cost.proofs.Sums.{sum_of-append}
use Rattle.plan_cost.proofs.laws.costs_add_up.Goals as goal

pub returns : goal.returns
returns c =
    let amounts = flat_map (step_amounts c.args._task.now c.args._costs.now) in
    ap (λ l. sum_of (Some (initial_cost c.args._costs.now) ∷ l)) (flat_map-append (step_amounts c.args._task.now c.args._costs.now) c.args._first.now c.args._others.now)
    ∙ sum_of-append (Some (initial_cost c.args._costs.now) ∷ amounts c.args._first.now) (amounts c.args._others.now)
