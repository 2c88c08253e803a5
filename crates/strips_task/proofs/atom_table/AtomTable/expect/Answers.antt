use Rattle.std.proofs.Common.{List, sym, subst}
use Rattle.strips_task.specs.declared.atom_keys.AtomKey.{AtomKey}
use Rattle.strips_task.specs.AtomTables.{IsAtomTable}
use Rattle.strips_task.proofs.AtomTables.{table_more}
use Rattle.strips_task.proofs.atom_table.AtomTable.expect.Goals as goal

pub invariant_of-self : goal.invariant_of-self
invariant_of-self c =
    subst (λ (l : List AtomKey). IsAtomTable l c.expect.new.self c.self.inside.wide.entries) (sym c.reserve.ensures.items)
    (table_more c.self.inside.entries.items c.self.inside.packed c.self.inside.wide.entries c.self.invariant c.expect.new.self c.expect.ensures.right c.expect.ensures.still)
