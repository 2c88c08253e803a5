use Rattle.std.proofs.Common.{◌≡◌, ◌+◌, Some, sym, ap, ◌∙◌, subst, arith}
use Rattle.formulas.specs.Atom.{atom_eq}
use Rattle.strips_task.specs.AtomKeys.{atom_of}
use Rattle.strips_task.specs.FirstOccurrences.{first_occurrences}
use Rattle.strips_task.specs.AtomNumbers.{number_in}
use Rattle.strips_judge.specs.NumberedState.{Numbered}
use Rattle.strips_judge.proofs.AtomsFound.{later_fits, later_has, only_first}
use Rattle.strips_judge.proofs.state.NumberedState.later_number.Goals as goal

pub overflow_add-result : goal.overflow_add-result
overflow_add-result c =
    let first = first_occurrences atom_eq c.self.inside.initial.now in
    let is = sym (c.in-Some.ensures (atom_of c.args.key) c.requires) in
    omega (arith, later_fits first c.self.inside.later c.self.inside.bits (atom_of c.args.key) c.in-Some.number c.self.invariant.0 is, c.distinct_len.ensures)

pub returns-in-Some-clause-later : goal.returns-in-Some-clause-later
returns-in-Some-clause-later c =
    let first = first_occurrences atom_eq c.self.inside.initial.now in
    let later = c.self.inside.later in
    let atom = atom_of c.args.key in
    ap (λ (s : Numbered). number_in s.atoms atom) (sym c.self.view_is)
    ∙ later_has first later c.self.inside.marks.items c.self.inside.cells c.self.invariant.1 atom c.in-Some.number (sym (c.in-Some.ensures atom c.requires))
    ∙ ap (λ n. Some (n + c.in-Some.number)) (sym c.distinct_len.ensures)

pub returns-in-None-clause-initial : goal.returns-in-None-clause-initial
returns-in-None-clause-initial c =
    let first = first_occurrences atom_eq c.self.inside.initial.now in
    let later = c.self.inside.later in
    let atom = atom_of c.args.key in
    subst (λ (s : Numbered). number_in s.atoms atom ≡ number_in (first_occurrences atom_eq s.initial) atom) c.self.view_is
    (only_first first later atom (sym (c.in-None.ensures atom c.requires)))
