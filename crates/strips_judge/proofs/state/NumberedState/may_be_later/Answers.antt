use Rattle.std.proofs.Common.{◌≡◌, ◌++◌, false, List, Bool, ap, ◌∙◌, subst, slice_index_or, ℕ, arith}
use Rattle.std.proofs.lemmas.Grind.{common_steps}
use Rattle.formulas.specs.declared.atoms.Atom.{Atom}
use Rattle.formulas.specs.Atom.{atom_eq}
use Rattle.strips_task.specs.FirstOccurrences.{first_occurrences}
use Rattle.strips_task.specs.AtomNumbers.{number_in}
use Rattle.strips_judge.specs.AtomsFound.{AreFound}
use Rattle.strips_judge.specs.NumberedState.{Numbered}
use Rattle.strips_judge.specs.SingleCells.{Cells}
use Rattle.strips_judge.proofs.AtomsFound.{unmarked, only_first}
use Rattle.strips_judge.proofs.state.NumberedState.may_be_later.Goals as goal

-- an atom of a predicate without a mark has the number that it has among the first
without_mark : (first later : List Atom) (marks : List Bool) (cells : Cells) (pred : ℕ) → AreFound first later marks cells → slice_index_or marks pred false ≡ false
    → (atom : Atom) → atom.pred ≡ pred → number_in (first ++ later) atom ≡ number_in first atom
without_mark first later marks cells pred kept unset atom is =
    only_first first later atom (unmarked first later marks cells kept atom (ap (λ p. slice_index_or marks p false) is ∙ unset))

pub returns-in-Some : goal.returns-in-Some
returns-in-Some c = λ unset atom is.
    let mark : slice_index_or c.self.inside.marks.items c.args.pred false ≡ false = grind (arith, common_steps) in
    subst (λ (s : Numbered). number_in s.atoms atom ≡ number_in (first_occurrences atom_eq s.initial) atom) c.self.view_is
    (without_mark (first_occurrences atom_eq c.self.inside.initial.now) c.self.inside.later c.self.inside.marks.items c.self.inside.cells c.args.pred c.self.invariant.1 mark atom is)

pub returns-in-None : goal.returns-in-None
returns-in-None c = λ unset atom is.
    let mark : slice_index_or c.self.inside.marks.items c.args.pred false ≡ false = grind (arith, common_steps) in
    subst (λ (s : Numbered). number_in s.atoms atom ≡ number_in (first_occurrences atom_eq s.initial) atom) c.self.view_is
    (without_mark (first_occurrences atom_eq c.self.inside.initial.now) c.self.inside.later c.self.inside.marks.items c.self.inside.cells c.args.pred c.self.invariant.1 mark atom is)
