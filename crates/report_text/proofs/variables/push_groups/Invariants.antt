use Rattle.std.proofs.Common.{◌≡◌, ◌++◌, drop}
use Rattle.report_text.specs.Notation.{continued, joined}
use Rattle.report_text.specs.Conditions.{groups_words}
use Rattle.report_text.proofs.variables.push_groups.Given as goal

-- With the groups that are left, the text is as it has to be at the end.
abbrev pub invariant-loop-index : goal.invariant-loop-index
invariant-loop-index l =
    l.text ++ continued l.notation l.begun (groups_words l.notation l.task (drop l.index l.groups)) ≡ l.fn.text ++ joined l.notation (groups_words l.notation l.task l.groups)
