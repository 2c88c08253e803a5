use Rattle.std.proofs.Common.{◌≡◌, ◌++◌, ◌+◌, ◌<◌, ◌≤◌, ◌*◌, ◌^◌, None, length, sym, ap, ◌∙◌, subst}
use Rattle.formulas.specs.Atom.{atom_eq}
use Rattle.strips_task.specs.FirstOccurrences.{first_occurrences}
use Rattle.strips_task.specs.AtomNumbers.{number_in}
use Rattle.strips_task.proofs.Numbering.{number_in-none_later}
use Rattle.strips_judge.specs.NumberedState.{Numbered}
use Rattle.strips_judge.proofs.AtomsFound.{same_with_marks, one_with_marks}
use Rattle.strips_judge.proofs.state.NumberedState.push_wide.Goals as goal

pub push_wide-requires-clause-new : goal.push_wide-requires-clause-new
push_wide-requires-clause-new c =
    let atom = c.args.atom in
    number_in-none_later (first_occurrences atom_eq c.self.inside.initial.now) c.self.inside.later atom
    (ap (λ (s : Numbered). number_in s.atoms atom) c.self.view_is ∙ c.requires.new)

pub invariant_of-self-in_err-push_wide : goal.invariant_of-self-in_err-push_wide
invariant_of-self-in_err-push_wide c =
    same_with_marks (first_occurrences atom_eq c.self.inside.initial.now) c.self.inside.later c.push_wide.new.self c.self.inside.marks.items c.mark.new.marks.items
    c.self.inside.cells c.self.inside.bits c.self.invariant.0 c.self.invariant.1 c.mark.ensures.still c.in_err-push_wide.ensures.err

pub invariant_of-self-2 : goal.invariant_of-self-2
invariant_of-self-2 c =
    let first = first_occurrences atom_eq c.self.inside.initial.now in
    let later = c.self.inside.later in
    let atom = c.args.atom in
    let none : number_in (first ++ later) atom ≡ None = ap (λ (s : Numbered). number_in s.atoms atom) c.self.view_is ∙ c.requires.new in
    let room : length (first ++ later) + 1 ≤ 64 * length c.self.inside.bits = subst (λ (s : Numbered). length s.atoms + 1 ≤ 64 * length s.bits) (sym c.self.view_is) c.requires.room in
    let small : length (first ++ later) + 1 < 2 ^ 32 = subst (λ (s : Numbered). length s.atoms + 1 < 2 ^ 32) (sym c.self.view_is) c.requires.small in
    let mark = c.in_ok-mark.ensures.marked in
    one_with_marks first later c.push_wide.new.self c.self.inside.marks.items c.mark.new.marks.items
    c.self.inside.cells c.self.inside.bits c.self.invariant.0 c.self.invariant.1 c.mark.ensures.still atom none mark room small c.in_ok-push_wide.ensures.ok
