use Rattle.std.proofs.Common.{ap, ◌∙◌}
use Rattle.formulas.specs.Atom.{atom_eq}
use Rattle.strips_task.specs.FirstOccurrences.{first_occurrences}
use Rattle.strips_task.proofs.initial.InitialAtoms.distinct.Goals as goal

pub returns : goal.returns
returns c = c.self.invariant.1 ∙ ap (first_occurrences atom_eq) c.self.view_is
