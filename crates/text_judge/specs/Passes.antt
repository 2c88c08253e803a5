-- A pass over a plan text: a walk over its steps, and a judge that takes each.

use Rattle.std.specs.Prelude.{◌≡◌, ℕ, ◌+◌, ◌<◌, List, [], ◌∷◌, ◌++◌, Option, Some, None, length}
use Rattle.strips_task.specs.declared.plans.Plan.TheVariants.{Steps, Unreadable}
use Rattle.strips_task.specs.declared.steps.StepText.{StepText}
use Rattle.strips_judge.specs.declared.verdict.Verdict.TheVariants as answer
use Rattle.strips_judge.specs.declared.verdict.Why.{Why}
use Rattle.plan_cost.specs.declared.assessments.Assessment.{Assessment}
use Rattle.plan_cost.specs.declared.costs.Cost.TheVariants.{NotCounted}
use Rattle.strips_task.specs.declared.costs.CostedTask.{CostedTask}
use Rattle.plan_cost.specs.Assessments.{assessment}
use Rattle.plan_text.specs.PlanReading.{plan_of}
use Rattle.plan_text.specs.Walks.{Walk, HasPassed}
use Rattle.text_judge.specs.Judging.{Judging, HasTaken}
use Rattle.text_judge.specs.Places.{IsKnownPlace}
use Rattle.text_judge.specs.declared.pass.Passed.{Passed}
use Rattle.text_judge.specs.declared.pass.Passed.TheVariants.{All, Fails, Unreadable as Faulty}
use Rattle.text_judge.specs.declared.pass.Tried.{Tried}
use Rattle.text_judge.specs.declared.pass.Tried.TheVariants.{Taken, Left}
use Rattle.text_judge.specs.declared.place.StepPlace.{StepPlace}

-- the judge has taken just the steps that the walk has passed
abbrev pub AreTogether : Walk → Judging → Type 0
AreTogether walk judging = (steps : List StepText) × HasPassed walk steps × HasTaken judging steps

-- a plan that begins with these steps and this one fails at this one, whatever follows
abbrev pub FailsNext : CostedTask → List StepText → StepText → Why → Type 0
FailsNext task steps step why =
    (rest : List StepText) → assessment task (Steps (steps ++ step ∷ rest)) ≡ record { verdict = answer.Fails (length steps + 1) why; cost = NotCounted }

-- the walk has passed the step with this number, counted from 1, every plan that begins with the steps up to it fails at it, and if a place is known, it is
-- written there
pub record FailsAt (walk : Walk) (task : CostedTask) (number : ℕ) (why : Why) (place : Option StepPlace) : Type 0 where
  pub before : List StepText
  pub step : StepText
  pub passed : HasPassed walk (before ++ step ∷ [])
  pub is : number ≡ length before + 1
  pub fails : FailsNext task before step why
  pub written : IsKnownPlace walk.text place (length before) step

-- how a pass ends: all steps of the text were taken, or a step fails, or the text is no plan text
abbrev pub EndsPass : Passed → Walk → Judging → Type 0
EndsPass All walk judging = (steps : List StepText) × HasTaken judging steps × (plan_of walk.text ≡ Steps steps)
EndsPass (Fails number why place) walk judging = FailsAt walk judging.task number why place
EndsPass (Faulty line) walk judging = plan_of walk.text ≡ Unreadable line

-- the assessment of a text with its fault in this line
abbrev pub unreadable : ℕ → Assessment
unreadable line = record { verdict = answer.Unreadable line; cost = NotCounted }

-- these steps, or these and one more
abbrev pub with_next : List StepText → Option StepText → List StepText
with_next steps None = steps
with_next steps (Some step) = steps ++ step ∷ []

-- a walk and a judge that were after these steps still are, or are after one more
abbrev pub GoOn : Walk → Judging → List StepText → Type 0
GoOn walk judging steps = (next : Option StepText) × HasPassed walk (with_next steps next) × HasTaken judging (with_next steps next)

-- what becomes of a walk and a judge that were after these steps: they go on, or the pass ends there
abbrev pub GoOnOrEnd : Option Passed → Walk → Judging → List StepText → Type 0
GoOnOrEnd None walk judging steps = GoOn walk judging steps
GoOnOrEnd (Some All) walk judging steps = HasTaken judging steps × (plan_of walk.text ≡ Steps steps)
GoOnOrEnd (Some (Fails number why place)) walk judging steps =
    (step : StepText) × HasPassed walk (steps ++ step ∷ []) × (number ≡ length steps + 1) × FailsNext judging.task steps step why
    × IsKnownPlace walk.text place (length steps) step
GoOnOrEnd (Some (Faulty line)) walk judging steps = plan_of walk.text ≡ Unreadable line

-- what became of the bytes between the next parentheses: they spell a step that was taken, or the walk stays, and nothing was taken
abbrev pub IsTried : Tried → Walk → Walk → Judging → Judging → Type 0
IsTried Taken old new before after =
    ((steps : List StepText) → HasPassed old steps → HasTaken before steps → GoOn new after steps) × (length new.rest < length old.rest)
IsTried (Left inside) old new before after = (new ≡ old) × ((steps : List StepText) → HasTaken before steps → HasTaken after steps)
