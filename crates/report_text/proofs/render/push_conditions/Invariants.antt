use Rattle.std.proofs.Common.{◌≡◌, ◌++◌, take}
use Rattle.report_text.specs.Report.{conditions_text}
use Rattle.report_text.proofs.render.push_conditions.Given as goal

-- The conditions so far stand behind the text that was there.
abbrev pub invariant-loop-cond : goal.invariant-loop-cond
invariant-loop-cond l = l.text ≡ l.fn.text ++ conditions_text l.task (take l.cond-index l.conds)
