use Rattle.std.proofs.Common.{ap, sym, ◌∙◌}
use Rattle.formulas.specs.Atom.{atom_eq}
use Rattle.strips_task.specs.AtomNumbers.{number_in}
use Rattle.strips_task.specs.FirstOccurrences.{first_occurrences}
use Rattle.strips_task.proofs.Numbering.{number_in-lt}
use Rattle.strips_task.proofs.initial.InitialAtoms.number_of.Goals as goal

pub returns-in-Some-clause-number : goal.returns-in-Some-clause-number
returns-in-Some-clause-number c =
    c.in-Some.ensures ∙ ap (λ l. number_in l c.args.atom.now) (c.self.invariant.1 ∙ ap (first_occurrences atom_eq) c.self.view_is)

pub returns-in-Some-clause-within : goal.returns-in-Some-clause-within
returns-in-Some-clause-within c =
    number_in-lt (first_occurrences atom_eq c.args.self.now) c.args.atom.now c.in-Some.number (sym (returns-in-Some-clause-number c))

pub returns-in-None-clause-number : goal.returns-in-None-clause-number
returns-in-None-clause-number c =
    c.in-None.ensures ∙ ap (λ l. number_in l c.args.atom.now) (c.self.invariant.1 ∙ ap (first_occurrences atom_eq) c.self.view_is)
