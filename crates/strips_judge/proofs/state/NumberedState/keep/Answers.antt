use Rattle.std.proofs.Common.{◌≡◌, ◌++◌, Some, sym, ap, ◌∙◌}
use Rattle.formulas.specs.Atom.{atom_eq}
use Rattle.strips_task.specs.FirstOccurrences.{first_occurrences}
use Rattle.strips_task.specs.AtomKeys.{atom_of}
use Rattle.strips_task.specs.AtomNumbers.{number_in}
use Rattle.strips_judge.specs.NumberedState.{Numbered}
use Rattle.strips_judge.proofs.AtomsFound.{found_cells}
use Rattle.strips_judge.proofs.state.NumberedState.keep.Goals as goal

pub invariant_of-self : goal.invariant_of-self
invariant_of-self c =
    let first = first_occurrences atom_eq c.self.inside.initial.now in
    let later = c.self.inside.later in
    let number : number_in (first ++ later) (atom_of c.args.key) ≡ Some c.in-Ok.number =
    ap (λ (s : Numbered). number_in s.atoms (atom_of c.args.key)) c.self.view_is ∙ c.requires ∙ ap Some (sym c.in-Ok.ensures.1)
    in (
      c.self.invariant.0,
      found_cells first later c.self.inside.marks.items c.self.inside.cells c.self.invariant.1 c.keep.new.self
          (c.keep.ensures.right (λ key. number_in (first ++ later) (atom_of key)) c.args.key (sym c.in-Some.ensures) number c.self.invariant.1.right),
    )
