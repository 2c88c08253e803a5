use Rattle.std.proofs.Common.{◌≡◌, ◌++◌, ◌∷◌, [], Some, true, subst}
use Rattle.formulas.specs.declared.atoms.Atom.{Atom}
use Rattle.formulas.specs.Atom.{atom_eq}
use Rattle.strips_task.specs.FirstOccurrences.{first_occurrences}
use Rattle.strips_task.specs.AtomNumbers.{number_in}
use Rattle.strips_judge.specs.NumberedState.{Numbered, state_of, state_by}
use Rattle.strips_judge.specs.State.{with_all}
use Rattle.strips_judge.proofs.NumberedLaws.{with_one, bit_changes}
use Rattle.strips_judge.proofs.state.NumberedState.set.Goals as goal

pub returns-clause-state : goal.returns-clause-state
returns-clause-state c =
    let atoms = first_occurrences atom_eq c.self.inside.initial.now ++ c.self.inside.later in
    subst (λ (s : Numbered). (atom : Atom) → number_in s.atoms atom ≡ Some c.args.number → state_by atoms c.set.new.self ≡ with_all (state_of s) (atom ∷ [])) c.self.view_is
    (λ atom e. with_one (state_by atoms c.self.inside.bits) (state_by atoms c.set.new.self) atom
    (bit_changes atoms c.self.inside.bits c.set.new.self atom true c.args.number e c.set.ensures.set c.set.ensures.others))
