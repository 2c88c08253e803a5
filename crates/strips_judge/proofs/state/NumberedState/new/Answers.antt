use Rattle.std.proofs.Common.{◌∙◌, arith, ap, ltb}
use Rattle.formulas.specs.Atom.{atom_eq}
use Rattle.strips_task.specs.FirstOccurrences.{first_occurrences}
use Rattle.strips_judge.proofs.AtomsFound.{found_none}
use Rattle.strips_judge.proofs.Growth.{row_for_none}
use Rattle.strips_judge.proofs.NumberedLaws.{initial_state}
use Rattle.strips_judge.proofs.state.NumberedState.new.Goals as goal

pub invariant_of-result : goal.invariant_of-result
invariant_of-result c =
    let first = first_occurrences atom_eq c.args.initial.now in (
      row_for_none first c.new.result c.distinct_len.result c.in_ok-with_first.field-0
          c.new.ensures c.distinct_len.ensures (omega arith) c.in_ok-with_first.ensures.first c.in_ok-with_first.ensures.room,
      found_none first c.new.result c.new-2.result.items c.new-3.result c.new.ensures c.new-3.ensures.right,
    )

pub returns-clause-state : goal.returns-clause-state
returns-clause-state c =
    initial_state c.args.initial.now c.new.result c.in_ok-with_first.field-0
    (λ k. c.in_ok-with_first.ensures.first k ∙ ap (ltb k) c.distinct_len.ensures)
