use Rattle.std.proofs.Common.{◌++◌, ◌∷◌, [], sym}
use Rattle.strips_task.proofs.AtomTables.{same_if_ok}
use Rattle.strips_task.proofs.Numbering.{insert_key-known, insert_key-new, number_at_end, number_in-at}
use Rattle.strips_task.proofs.atom_table.AtomTable.insert_wide.Goals as goal

pub returns-in-Some-clause-ok : goal.returns-in-Some-clause-ok
returns-in-Some-clause-ok c = sym (insert_key-known c.args.self.now c.args.atom c.in-Some.number (sym c.in-Some.ensures))

pub returns-in-Some-clause-number : goal.returns-in-Some-clause-number
returns-in-Some-clause-number c = number_in-at c.args.self.now c.args.atom c.in-Some.number (sym c.in-Some.ensures)

pub returns-in-None-clause-ok : goal.returns-in-None-clause-ok
returns-in-None-clause-ok c =
    same_if_ok c.push_wide.result c.push_wide.new.self (c.args.self.now ++ c.args.atom ∷ []) _ (sym (insert_key-new c.args.self.now c.args.atom (sym c.in-None.ensures))) c.push_wide.ensures.ok

pub returns-in-None-clause-number : goal.returns-in-None-clause-number
returns-in-None-clause-number c = number_at_end c.push_wide.result c.args.self.now c.push_wide.new.self c.args.atom c.push_wide.ensures.ok c.push_wide.ensures.number
