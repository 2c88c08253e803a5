use Rattle.std.proofs.Common.{◌∙◌}
use Rattle.plan_text.specs.PlanReading.{plan_of}
use Rattle.strips_task.specs.Plans.{plan_eq}
use Rattle.strips_task.specs.PlanEquality.{plans_equivalence}
use Rattle.intake_rules.proofs.plan.SubmittedPlan.is_same.Goals as goal

pub returns-in-Text-Read : goal.returns-in-Text-Read
returns-in-Text-Read c =
    let text = c.in-Text-Read.text in
    let plan = c.in-Text-Read.plan in
    c.is_plan_of-in-Text-Read.ensures
    ∙ plans_equivalence.symm plan.now (plan_of text.now)
    ∙ (λ i. plan_eq (c.in-Text-Read.ensures i) (c.in-Text-Read.ensures' i))
