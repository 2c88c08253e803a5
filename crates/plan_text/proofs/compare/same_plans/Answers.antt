use Rattle.std.proofs.Common.{ap, sym, ◌∙◌}
use Rattle.std.specs.Cmp.Lexicographic.{bytes_decides}
use Rattle.strips_task.specs.Plans.{plan_eq}
use Rattle.strips_task.specs.PlanEquality.{plans_equivalence}
use Rattle.plan_text.specs.PlanReading.{plan_of}
use Rattle.plan_text.proofs.compare.same_plans.Goals as goal

pub returns-then-eq : goal.returns-then-eq
returns-then-eq c =
    sym (plans_equivalence.refl (plan_of c.args.text.now)) ∙ ap (λ t. plan_eq (plan_of c.args.text.now) (plan_of t)) ((bytes_decides _ _).0 (sym c.eq.ensures ∙ c.if-eq.true))
