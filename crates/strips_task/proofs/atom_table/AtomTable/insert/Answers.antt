use Rattle.std.proofs.Common.{Some, ap, ◌∙◌}
use Rattle.indexmap.specs.IndexSet.{insert_key}
use Rattle.formulas.specs.Atom.{atom_eq}
use Rattle.strips_task.proofs.atom_table.AtomTable.insert.Goals as goal

pub returns-in-Ok-clause-ok : goal.returns-in-Ok-clause-ok
returns-in-Ok-clause-ok c = c.in-Ok.ensures.ok ∙ ap (insert_key atom_eq c.args.self.now) c.in-Some.ensures.key.atom_is

pub returns-in-Ok-clause-number : goal.returns-in-Ok-clause-number
returns-in-Ok-clause-number c = c.in-Ok.ensures.number ∙ ap Some c.in-Some.ensures.key.atom_is
