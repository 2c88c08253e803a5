use Rattle.std.proofs.Common.{◌≡◌, ◌++◌, map, take}
use Rattle.strips_task.specs.StepView.{step_shown}
use Rattle.report_text.specs.Pieces.{after_commas, json_string}
use Rattle.report_text.proofs.json.push_arguments.Given as goal

-- The names so far are behind the text that was there.
abbrev pub invariant-loop-index : goal.invariant-loop-index
invariant-loop-index l = l.text ≡ l.fn.text ++ after_commas (map json_string (take l.index (step_shown l.step).args))
