-- The plan that is meant by what is kept of it.

use Rattle.std.specs.Arc.{arc_value}
use Rattle.plan_text.specs.PlanReading.{plan_of}
use Rattle.strips_task.specs.declared.plans.Plan.{Plan}
use Rattle.text_judge.specs.Places.{IsPlaceIn}
use Rattle.text_judge.specs.declared.place.StepPlace.{StepPlace}
use Rattle.intake_rules.specs.declared.plan.PlanForm.{PlanForm}
use Rattle.intake_rules.specs.declared.plan.PlanForm.TheVariants as shown
use Rattle.intake_rules.specs.declared.plan.KeptPlan.{KeptPlan}
use Rattle.intake_rules.specs.declared.plan.KeptPlan.TheVariants as kept

-- the plan that is kept: itself, or the plan of its text
abbrev pub content : KeptPlan → Plan
content (kept.Read plan) = arc_value plan
content (kept.Text text) = plan_of text

-- the plan that is shown: itself, or the plan of its text
abbrev pub content_shown : PlanForm → Plan
content_shown (shown.Read plan) = plan.now
content_shown (shown.Text text) = plan_of text.now

-- a step of the plan that is kept is written at this place: the plan is kept as its text, and the place is one in the text
abbrev pub IsPlaceOf : KeptPlan → StepPlace → Type 0
IsPlaceOf (kept.Read plan) place = ⊥
IsPlaceOf (kept.Text text) place = IsPlaceIn text place
