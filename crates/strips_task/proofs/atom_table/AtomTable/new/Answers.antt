use Rattle.std.proofs.Common.{ℕ, List, ap, sym, subst}
use Rattle.formulas.specs.declared.atoms.Atom.{Atom}
use Rattle.strips_task.specs.declared.atom_keys.AtomKey.{AtomKey}
use Rattle.strips_task.specs.AtomTables.{IsAtomTable}
use Rattle.strips_task.specs.LongAtoms.{long_number}
use Rattle.strips_task.proofs.AtomTables.{table_none}
use Rattle.strips_task.proofs.atom_table.AtomTable.new.Goals as goal

pub invariant_of-result : goal.invariant_of-result
invariant_of-result c =
    subst (λ (l : List AtomKey). IsAtomTable l c.new-2.result c.with_hasher.result.entries) (sym c.new.ensures.items)
    (table_none c.new-2.result c.with_hasher.result.entries c.new-2.ensures (λ atom. ap (λ (l : List (Atom × ℕ)). long_number l atom) c.with_hasher.ensures.empty))
