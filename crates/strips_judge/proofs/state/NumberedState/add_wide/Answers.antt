use Rattle.std.proofs.Common.{◌++◌, ◌∷◌, [], Some, sym, ap, ◌∙◌}
use Rattle.formulas.specs.declared.atoms.Atom.{Atom}
use Rattle.formulas.specs.Atom.{atom_eq}
use Rattle.strips_task.specs.FirstOccurrences.{first_occurrences}
use Rattle.strips_judge.specs.NumberedState.{Numbered, state_of}
use Rattle.strips_judge.proofs.Growth.{grows_one, number_of_one}
use Rattle.strips_judge.proofs.NumberedLaws.{state_of-one}
use Rattle.strips_judge.proofs.state.NumberedState.add_wide.Goals as goal

pub returns-clause-number : goal.returns-clause-number
returns-clause-number c =
    let atom = c.args.atom.now in
    number_of_one c.args.self.now c.push_wide.new.self atom c.requires.new
    (c.in_ok-push_wide.ensures.atoms ∙ ap (λ (a : Atom). (first_occurrences atom_eq c.self.inside.initial.now ++ c.self.inside.later) ++ a ∷ []) c.in_ok-try_clone.ensures ∙ ap (λ (s : Numbered). s.atoms ++ atom ∷ []) c.self.view_is)
    ∙ ap Some (sym c.in_ok-number.ensures.0)

pub returns-clause-state : goal.returns-clause-state
returns-clause-state c =
    let before : Numbered = record { initial = c.self.inside.initial.now; atoms = first_occurrences atom_eq c.self.inside.initial.now ++ c.self.inside.later; bits = c.self.inside.bits } in
    state_of-one before c.push_wide.new.self c.reserve.new.self c.in_ok-try_clone.field-0 c.self.invariant.0 c.reserve.ensures.same
    c.push_wide.ensures.bits c.in_ok-push_wide.ensures.atoms
    ∙ ap state_of c.self.view_is

pub returns-clause-grows : goal.returns-clause-grows
returns-clause-grows c =
    let atom = c.args.atom.now in
    grows_one c.args.self.now c.push_wide.new.self atom
    (c.push_wide.ensures.initial ∙ ap (λ (s : Numbered). s.initial) c.self.view_is)
    (c.in_ok-push_wide.ensures.atoms ∙ ap (λ (a : Atom). (first_occurrences atom_eq c.self.inside.initial.now ++ c.self.inside.later) ++ a ∷ []) c.in_ok-try_clone.ensures ∙ ap (λ (s : Numbered). s.atoms ++ atom ∷ []) c.self.view_is)
