use Rattle.std.proofs.Common.{◌+◌, Some, sym, ap, ◌∙◌, arith}
use Rattle.formulas.specs.Atom.{atom_eq}
use Rattle.strips_task.specs.FirstOccurrences.{first_occurrences}
use Rattle.strips_task.specs.AtomNumbers.{number_in}
use Rattle.strips_judge.specs.NumberedState.{Numbered}
use Rattle.strips_task.proofs.Numbering.{number_in-first}
use Rattle.strips_judge.proofs.AtomsFound.{later_fits, later_has, only_first}
use Rattle.strips_judge.proofs.state.NumberedState.number_of_wide.Goals as goal

pub returns-in-Some : goal.returns-in-Some
returns-in-Some c =
    sym (number_in-first (first_occurrences atom_eq c.self.inside.initial.now) c.self.inside.later c.args.atom.now c.in-Some.number (sym c.in-Some.ensures.number))
    ∙ ap (λ (s : Numbered). number_in s.atoms c.args.atom.now) c.self.view_is

pub overflow_add-result : goal.overflow_add-result
overflow_add-result c =
    let first = first_occurrences atom_eq c.self.inside.initial.now in
    let fits = later_fits first c.self.inside.later c.self.inside.bits c.args.atom.now c.in-Some-find_wide.number c.self.invariant.0 (sym c.in-Some-find_wide.ensures) in
    omega (arith, fits, c.distinct_len.ensures)

pub returns-in-Some-find_wide : goal.returns-in-Some-find_wide
returns-in-Some-find_wide c =
    let first = first_occurrences atom_eq c.self.inside.initial.now in
    let later = c.self.inside.later in
    let atom = c.args.atom.now in
    ap (λ n. Some (n + c.in-Some-find_wide.number)) c.distinct_len.ensures
    ∙ sym (later_has first later c.self.inside.marks.items c.self.inside.cells c.self.invariant.1 atom c.in-Some-find_wide.number (sym c.in-Some-find_wide.ensures))
    ∙ ap (λ (s : Numbered). number_in s.atoms atom) c.self.view_is

pub returns-in-None : goal.returns-in-None
returns-in-None c =
    let first = first_occurrences atom_eq c.self.inside.initial.now in
    let later = c.self.inside.later in
    let atom = c.args.atom.now in
    c.in_default.ensures.number
    ∙ sym (only_first first later atom (sym c.in-None.ensures))
    ∙ ap (λ (s : Numbered). number_in s.atoms atom) c.self.view_is
