use Rattle.std.proofs.Common.{◌≡◌, ◌++◌, ◌∷◌, [], List, None, length, lit<, ap, sym, ◌∙◌, subst}
use Rattle.indexmap.proofs.CallerLemmas.{insert_entry-new}
use Rattle.formulas.specs.declared.atoms.Atom.{Atom}
use Rattle.strips_task.specs.declared.atom_keys.AtomKey.{AtomKey}
use Rattle.formulas.specs.Atom.{atom_eq}
use Rattle.strips_task.specs.AtomNumbers.{number_in}
use Rattle.strips_task.specs.AtomTables.{IsAtomTable, atoms_of}
use Rattle.strips_task.proofs.AtomTables.{atoms_of-many, table_many}
use Rattle.strips_task.proofs.atom_table.AtomTable.push_wide.Goals as goal

-- the entry that is added
abbrev entry : goal.After-push_reserved → AtomKey
entry c = record { objects = c.len-index.result; head = 327680 }

-- the atom had no number
absent : (c : goal.After-push_reserved) → number_in (atoms_of c.self.inside.wide.entries c.self.inside.entries.items) c.args.atom ≡ None
absent c = ap (λ (l : List Atom). number_in l c.args.atom) c.self.view_is ∙ c.requires.new

-- it goes last among those of many objects
longer : (c : goal.After-push_reserved) → c.insert.new.self.entries ≡ c.self.inside.wide.entries ++ (c.args.atom, c.in-Ok.number) ∷ []
longer c =
    c.in_default-insert.ensures.entries
    ∙ insert_entry-new atom_eq c.self.inside.wide c.args.atom c.in-Ok.number (c.self.invariant.found.many c.args.atom c.requires.many ∙ absent c)

-- and its entry among all
items : (c : goal.After-push_reserved) → c.push_reserved.new.self.items ≡ c.self.inside.entries.items ++ entry c ∷ []
items c = c.push_reserved.ensures.items ∙ ap (λ (l : List AtomKey). l ++ entry c ∷ []) c.reserve.ensures.items

pub invariant_of-self-2 : goal.invariant_of-self-2
invariant_of-self-2 c =
    let updates = c.in_default-insert.ensures.updates in
    subst (λ (l : List AtomKey). IsAtomTable l c.self.inside.packed c.insert.new.self.entries) (sym (items c))
    (table_many c.self.inside.entries.items c.self.inside.packed c.self.inside.wide.entries c.self.invariant c.args.atom c.in-Ok.number c.insert.new.self.entries (entry c)
    c.requires.many (absent c) (c.in-Ok.ensures ∙ sym (ap length c.self.view_is)) (longer c) c.len-index.ensures.len (lit< tt) updates.1 updates.2)

pub returns-clause-ok : goal.returns-clause-ok
returns-clause-ok c =
    ap (atoms_of c.insert.new.self.entries) (items c)
    ∙ atoms_of-many c.self.inside.wide.entries c.insert.new.self.entries c.self.inside.entries.items c.args.atom c.in-Ok.number (entry c)
    c.self.invariant.within (longer c) c.len-index.ensures.len (lit< tt)
    ∙ ap (λ (l : List Atom). l ++ c.args.atom ∷ []) c.self.view_is
