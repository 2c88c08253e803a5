use Rattle.std.proofs.Common.{◌≡◌, List, refl, sym, subst}
use Rattle.strips_task.specs.declared.plans.Plan.TheVariants.{Steps}
use Rattle.strips_task.specs.declared.steps.StepText.{StepText}
use Rattle.plan_text.specs.PlanReading.{plan_of}
use Rattle.plan_text.specs.Walks.{Walk, HasPassed}
use Rattle.plan_text.proofs.WalkLemmas.{ends_here}
use Rattle.plan_text.proofs.walk.PlanSteps.is_over.Goals as goal

pub returns-in-End : goal.returns-in-End
returns-in-End c = λ over. (
  refl,
  subst (λ (w : Walk). (steps : List StepText) → HasPassed w steps → plan_of w.text ≡ Steps steps) c.self.view_is
      (ends_here _ (sym c.in-End.ensures) (c.is_over.ensures over)),
)
