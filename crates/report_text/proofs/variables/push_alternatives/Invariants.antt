use Rattle.std.proofs.Common.{◌≡◌, ◌++◌, map, take}
use Rattle.report_text.specs.Notation.{separated}
use Rattle.report_text.specs.Conditions.{type_word}
use Rattle.report_text.proofs.variables.push_alternatives.Given as goal

-- The types so far are behind the text that was there.
abbrev pub invariant-loop-number : goal.invariant-loop-number
invariant-loop-number l = l.text ≡ l.fn.text ++ separated l.notation (map (type_word l.notation l.task) (take l.number-index l.types))
