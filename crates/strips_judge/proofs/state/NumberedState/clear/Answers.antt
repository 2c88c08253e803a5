use Rattle.std.proofs.Common.{◌≡◌, ◌++◌, ◌∷◌, [], Some, false, subst}
use Rattle.formulas.specs.declared.atoms.Atom.{Atom}
use Rattle.formulas.specs.Atom.{atom_eq}
use Rattle.strips_task.specs.FirstOccurrences.{first_occurrences}
use Rattle.strips_task.specs.AtomNumbers.{number_in}
use Rattle.strips_judge.specs.NumberedState.{Numbered, state_of, state_by}
use Rattle.strips_judge.specs.State.{without}
use Rattle.strips_judge.proofs.NumberedLaws.{without_one, bit_changes}
use Rattle.strips_judge.proofs.state.NumberedState.clear.Goals as goal

pub returns-clause-state : goal.returns-clause-state
returns-clause-state c =
    let atoms = first_occurrences atom_eq c.self.inside.initial.now ++ c.self.inside.later in
    subst (λ (s : Numbered). (atom : Atom) → number_in s.atoms atom ≡ Some c.args.number → state_by atoms c.clear.new.self ≡ without (state_of s) (atom ∷ [])) c.self.view_is
    (λ atom e. without_one (state_by atoms c.self.inside.bits) (state_by atoms c.clear.new.self) atom
    (bit_changes atoms c.self.inside.bits c.clear.new.self atom false c.args.number e c.clear.ensures.cleared c.clear.ensures.others))
