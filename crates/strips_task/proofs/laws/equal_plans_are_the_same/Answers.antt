use Rattle.std.proofs.Common.{ap, sym, ◌∙◌}
use Rattle.strips_task.specs.Plans.{plan_eq}
use Rattle.strips_task.specs.PlanEquality.{plan_same, plans_equivalence}
use Rattle.strips_task.proofs.laws.equal_plans_are_the_same.Goals as goal

pub returns : goal.returns
returns c =
    let a = c.args.first.now in
    let b = c.args.second.now in
    (plan_same a b, λ e. ap (plan_eq a) (sym e) ∙ plans_equivalence.refl a)
