use Rattle.std.proofs.Common.{◌≡◌, ◌++◌, map, take}
use Rattle.std.specs.Map.Iter.{deref}
use Rattle.report_text.specs.Notation.{separated}
use Rattle.report_text.specs.Conditions.{term_word}
use Rattle.report_text.proofs.literals.push_terms.Given as goal

-- The terms so far are behind the text that was there.
abbrev pub invariant-loop-term : goal.invariant-loop-term
invariant-loop-term l = l.text ≡ l.fn.text ++ separated l.notation (map (term_word l.notation l.task (map deref l.names)) (take l.term-index l.terms))
