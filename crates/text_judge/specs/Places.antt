-- Where a step is written in a plan text.

use Rattle.std.specs.Prelude.{◌≡◌, ℕ, ◌≤◌, List, Option, Some, None, length, slice_range}
use Rattle.strips_task.specs.declared.steps.StepText.{StepText}
use Rattle.strips_task.specs.Spelled.{IsSpelled, step_spelled}
use Rattle.plan_text.specs.PlanReading.{plan_of}
use Rattle.plan_text.specs.StepAt.{step_at}
use Rattle.text_judge.specs.declared.place.StepPlace.{StepPlace}

-- the bytes of a text at a place
abbrev pub bytes_at : List ℕ → StepPlace → List ℕ
bytes_at text place = slice_range text place.start place.end

-- the bytes of a text at this place spell this step
pub record IsRowOf (text : List ℕ) (place : StepPlace) (step : StepText) : Type 0 where
  pub ordered : place.start ≤ place.end
  pub within : place.end ≤ length text
  pub names : IsSpelled (bytes_at text place)
  pub spelled : step_spelled (bytes_at text place) ≡ step

-- the place, if one is known, is that of this step, which comes after so many others
abbrev pub IsKnownPlace : List ℕ → Option StepPlace → ℕ → StepText → Type 0
IsKnownPlace text None before step = Unit {0}
IsKnownPlace text (Some place) before step = (place.index ≡ before) × IsRowOf text place step

-- the bytes of a text at this place spell the step of its plan with the index of the place
pub record IsPlaceIn (text : List ℕ) (place : StepPlace) : Type 0 where
  pub ordered : place.start ≤ place.end
  pub within : place.end ≤ length text
  pub names : IsSpelled (bytes_at text place)
  pub step : step_at (plan_of text) place.index ≡ Some (step_spelled (bytes_at text place))
