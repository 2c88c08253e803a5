use Rattle.std.proofs.Common.{◌≡◌, ◌++◌, map, take}
use Rattle.std.specs.Map.Iter.{deref}
use Rattle.report_text.specs.Notation.{opening, word, separated}
use Rattle.report_text.specs.Conditions.{formula_text}
use Rattle.report_text.proofs.conditions.+formula.Given as goal

-- The parts so far are behind the operator.
abbrev pub invariant-push_parts-loop-part : goal.invariant-push_parts-loop-part
invariant-push_parts-loop-part l =
    l.text ≡ l.fn.text ++ ((opening l.notation ++ word l.notation l.operator) ++ separated l.notation (map (formula_text l.notation l.task (map deref l.names)) (take l.part-index l.parts)))
