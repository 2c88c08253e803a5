use Rattle.std.proofs.Common.{◌≡◌, ◌++◌, map, take}
use Rattle.report_text.specs.Pieces.{after_commas}
use Rattle.report_text.specs.Conditions.{json_condition}
use Rattle.report_text.proofs.json.push_more_conditions.Given as goal

-- The conditions so far are behind the text that was there.
abbrev pub invariant-loop-cond : goal.invariant-loop-cond
invariant-loop-cond l = l.text ≡ l.fn.text ++ after_commas (map (json_condition l.task) (take l.cond-index l.conds))
