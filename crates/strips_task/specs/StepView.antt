-- What a view of a step shows.

use Rattle.std.specs.Prelude.{slice_range}
use Rattle.strips_task.specs.declared.steps.StepText.{StepText}
use Rattle.strips_task.specs.declared.step_view.StepView.{StepView}
use Rattle.strips_task.specs.Steps.{step_of}

-- the step that a view shows
abbrev pub step_shown : StepView → StepText
step_shown view = step_of (slice_range view.words.now view.first view.end)
