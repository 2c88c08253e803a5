use Rattle.std.proofs.Common.{sym, ◌∙◌}
use Rattle.strips_task.specs.StepView.{step_shown}
use Rattle.strips_judge.specs.Step.{objects_named}
use Rattle.plan_cost.proofs.NumberAmounts.{numbers_alike}
use Rattle.plan_cost.proofs.objects.find_objects_for.Goals as goal

pub returns-then-are_numbers : goal.returns-then-are_numbers
returns-then-are_numbers c = λ values.
    numbers_alike values c.args.objects.now.items (objects_named c.args.task.now (step_shown c.args.step).args) c.args.amounts.now
    (sym c.are_numbers.ensures ∙ c.if-are_numbers.true)
