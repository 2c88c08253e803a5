use Rattle.std.proofs.Common.{ap, ◌∙◌, map}
use Rattle.strips_judge.proofs.VerdictLaws.{success_as}
use Rattle.strips_judge.specs.Step.{objects_named}
use Rattle.strips_task.specs.StepView.{step_shown}
use Rattle.plan_cost.specs.Costs.{sum_of, amount_of, increases_of}
use Rattle.plan_cost.proofs.counting.step_cost.Goals as goal

pub returns-clause-cost : goal.returns-clause-cost
returns-clause-cost c =
    success_as _ _ c.sum_of.result
    (λ cost is. is
    ∙ ap (λ objects. sum_of (map (amount_of c.args.costs.now.values objects) c.increases_of-amounts.result.now)) c.as_slice-objects.ensures.value
    ∙ ap sum_of (c.in_ok-find_objects_for.ensures c.args.costs.now.values)
    ∙ ap (λ amounts. sum_of (map (amount_of c.args.costs.now.values (objects_named c.args.task.now (step_shown c.args.step).args)) amounts)) (c.increases_of-amounts.ensures.amounts ∙ ap (increases_of c.args.task.now c.args.costs.now) c.action.ensures))
    c.sum_of.ensures.sum
