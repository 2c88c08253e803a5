use Rattle.std.proofs.Common.{◌≡◌, ◌++◌, ◌∷◌, [], List, None, Some, length, ap, sym, ◌∙◌, subst}
use Rattle.formulas.specs.declared.atoms.Atom.{Atom}
use Rattle.strips_task.specs.declared.atom_keys.AtomKey.{AtomKey}
use Rattle.strips_task.specs.AtomKeys.{atom_of}
use Rattle.strips_task.specs.AtomNumbers.{number_in}
use Rattle.strips_task.specs.AtomTables.{IsAtomTable, atoms_of}
use Rattle.strips_task.proofs.AtomTables.{table_packed, table_more}
use Rattle.strips_task.proofs.atom_table.AtomTable.push_packed.Goals as goal

pub invariant_of-self-in_err-keep : goal.invariant_of-self-in_err-keep
invariant_of-self-in_err-keep c =
    subst (λ (l : List AtomKey). IsAtomTable l c.keep.new.self c.self.inside.wide.entries) (sym c.reserve.ensures.items)
    (table_more c.self.inside.entries.items c.self.inside.packed c.self.inside.wide.entries c.self.invariant c.keep.new.self c.in_err-keep.ensures.failed c.in_err-keep.ensures.still)

pub invariant_of-self-2 : goal.invariant_of-self-2
invariant_of-self-2 c =
    let entries = c.self.inside.entries.items in
    let long = c.self.inside.wide.entries in
    let none : number_in (atoms_of long entries) (atom_of c.args.key) ≡ None = ap (λ (l : List Atom). number_in l (atom_of c.args.key)) c.self.view_is ∙ c.requires.new in
    let count : length (atoms_of long entries) ≡ c.in_ok-number.number = ap length c.self.view_is ∙ sym c.in_ok-number.ensures in
    subst (λ (l : List AtomKey). IsAtomTable l c.keep.new.self long) (sym (c.push_reserved.ensures.items ∙ ap (λ l. l ++ c.args.key ∷ []) c.reserve.ensures.items))
    (table_packed entries c.self.inside.packed long c.self.invariant c.keep.new.self c.args.key c.requires.key none
    (λ number_of is. c.in_ok-keep.ensures.right number_of (is ∙ ap Some count)) c.in_ok-keep.ensures.known c.in_ok-keep.ensures.still)
