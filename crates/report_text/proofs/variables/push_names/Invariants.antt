use Rattle.std.proofs.Common.{◌≡◌, ◌++◌, drop}
use Rattle.report_text.specs.Notation.{continued}
use Rattle.report_text.specs.Conditions.{variable_words}
use Rattle.report_text.proofs.variables.push_names.Given as goal

-- With the names that are left, the text is as it has to be at the end.
abbrev pub invariant-loop-name : goal.invariant-loop-name
invariant-loop-name l =
    l.text ++ continued l.notation l.has_part (variable_words l.notation (drop l.name-index l.names))
    ≡ l.fn.text ++ continued l.notation l.begun (variable_words l.notation l.names)
