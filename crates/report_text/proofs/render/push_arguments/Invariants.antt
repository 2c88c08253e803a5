use Rattle.std.proofs.Common.{◌≡◌, ◌++◌, take}
use Rattle.strips_task.specs.StepView.{step_shown}
use Rattle.report_text.specs.Pieces.{spaced}
use Rattle.report_text.proofs.render.push_arguments.Given as goal

-- The names so far stand behind the text that was there.
abbrev pub invariant-loop-index : goal.invariant-loop-index
invariant-loop-index l = l.text ≡ l.fn.text ++ spaced (take l.index (step_shown l.step).args)
