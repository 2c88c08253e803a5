use Rattle.std.proofs.Common.{ℕ, ◌<◌, ◌≤◌, ◌*◌, ◌^◌, Option, IfSome, length, subst, sym, ◌∙◌, arith}
use Rattle.std.proofs.lemmas.Option.{get_or_from_slice_get}
use Rattle.strips_task.specs.StepView.{step_shown}
use Rattle.plan_cost.specs.Costs.{step_amounts, sum_of, steps_cost}
use Rattle.strips_task.specs.Values.{initial_cost}
use Rattle.plan_cost.proofs.Sums.{summed_first, undefined_here, summed_more}
use Rattle.plan_cost.proofs.counting.steps_cost.Goals as goal

pub loop-index-init : goal.loop-index-init
loop-index-init c = (
  summed_first (step_amounts c.args.task.now c.args.costs.now) (initial_cost c.args.costs.now) c.from-sum.result c.args.steps.now (c.from-sum.ensures ∙ c.initial_cost.ensures),
  omega arith,
)

pub returns-in-None-clause-cost : goal.returns-in-None-clause-cost
returns-in-None-clause-cost c =
    let lt : c.loop-index.index < length c.args.steps.now = omega arith in
    sym (undefined_here (λ step. sum_of (step_amounts c.args.task.now c.args.costs.now step)) (steps_cost c.args.task.now c.args.costs.now c.args.steps.now) c.loop-index.sum c.args.steps.now c.loop-index.index c.loop-index.invariant.0
    (step_shown c.get.result) lt (sym (get_or_from_slice_get c.args.steps.now c.loop-index.index (step_shown c.get.result) (step_shown c.get.result) c.get.ensures))
    (sym c.in-None.is ∙ c.in_ok-cost.ensures.cost))

pub loop-index-preserved : goal.loop-index-preserved
loop-index-preserved c =
    let lt : c.loop-index.index < length c.args.steps.now = omega arith in
    let small : c.in-Some.cost ≤ 32 * 2 ^ 64 = let P : Option ℕ → Type 0 = λ cost. IfSome cost (λ sum. sum ≤ 32 * 2 ^ 64) in subst P c.in-Some.is c.in_ok-cost.ensures.small in (
      summed_more (λ step. sum_of (step_amounts c.args.task.now c.args.costs.now step)) (steps_cost c.args.task.now c.args.costs.now c.args.steps.now) c.loop-index.sum c.args.steps.now c.loop-index.index c.loop-index.invariant.0
          (step_shown c.get.result) lt (sym (get_or_from_slice_get c.args.steps.now c.loop-index.index (step_shown c.get.result) (step_shown c.get.result) c.get.ensures))
          c.in-Some.cost (sym c.in-Some.is ∙ c.in_ok-cost.ensures.cost),
      omega arith,
    )
