use Rattle.std.proofs.Common.{◌≡◌, ◌++◌, ◌∷◌, [], ℕ, List, Option, IfNone, IfSome, None, Some, length, slice_get, ap, sym, ◌∙◌, subst}
use Rattle.formulas.specs.declared.atoms.Atom.{Atom}
use Rattle.strips_task.specs.declared.atom_keys.AtomKey.{AtomKey}
use Rattle.indexmap.specs.IndexSet.{insert_key}
use Rattle.formulas.specs.Atom.{atom_eq}
use Rattle.strips_task.specs.AtomKeys.{atom_of}
use Rattle.strips_task.specs.AtomNumbers.{number_in}
use Rattle.strips_task.specs.AtomTables.{IsAtomTable, atoms_of}
use Rattle.strips_task.specs.KnownAtoms.{AreRight, IsKnown}
use Rattle.strips_task.proofs.AtomKeys.{few_said}
use Rattle.strips_task.proofs.AtomTables.{absent_packed, atoms_of-packed, table_packed, table_more}
use Rattle.strips_task.proofs.Numbered.{at_end}
use Rattle.strips_task.proofs.Numbering.{insert_key-known, insert_key-new, number_in-at}
use Rattle.strips_task.proofs.atom_table.AtomTable.insert_packed.Goals as goal
use Rattle.strips_task.proofs.atom_table.AtomTable.insert_packed.Goals.{After-push_reserved, In-None, In-Some}

-- the atom has the number that was found
numbered : (c : In-Some) → number_in (atoms_of c.self.inside.wide.entries c.self.inside.entries.items) (atom_of c.args.key) ≡ Some c.in-Some.number
numbered c =
    subst (λ (found : Option ℕ). IfSome found (λ there. (number_of : AtomKey → Option ℕ) → AreRight number_of c.self.inside.packed → number_of c.args.key ≡ Some there))
    c.in-Some.is c.in_ok-number.ensures.found
    (λ key. number_in (atoms_of c.self.inside.wide.entries c.self.inside.entries.items) (atom_of key)) c.self.invariant.found.right

-- the atom has no number
absent : (c : In-None) → number_in (atoms_of c.self.inside.wide.entries c.self.inside.entries.items) (atom_of c.args.key) ≡ None
absent c =
    absent_packed c.self.inside.entries.items c.self.inside.packed c.self.inside.wide.entries c.self.invariant c.args.key c.requires
    (subst (λ (found : Option ℕ). IfNone found (IsKnown c.self.inside.packed c.args.key → ⊥)) c.in-None.is c.in_ok-number.ensures.absent)

-- the number that comes next
next_there : (c : In-None) → c.in_ok-next.next ≡ length (atoms_of c.self.inside.wide.entries c.self.inside.entries.items)
next_there c = c.in_ok-next.ensures ∙ sym (ap length c.self.view_is)

-- the entry of the atom goes last
items : (c : After-push_reserved) → c.push_reserved.new.self.items ≡ c.self.inside.entries.items ++ c.args.key ∷ []
items c = c.push_reserved.ensures.items ∙ ap (λ (l : List AtomKey). l ++ c.args.key ∷ []) c.reserve.ensures.items

-- and so does the atom
longer : (c : After-push_reserved) → atoms_of c.self.inside.wide.entries c.push_reserved.new.self.items
    ≡ atoms_of c.self.inside.wide.entries c.self.inside.entries.items ++ atom_of c.args.key ∷ []
longer c =
    ap (atoms_of c.self.inside.wide.entries) (items c)
    ∙ atoms_of-packed c.self.inside.wide.entries c.self.inside.entries.items c.args.key (few_said c.args.key c.requires)

pub invariant_of-self-in_err-number : goal.invariant_of-self-in_err-number
invariant_of-self-in_err-number c =
    subst (λ (l : List AtomKey). IsAtomTable l c.find_or_keep.new.self c.self.inside.wide.entries) (sym c.reserve.ensures.items)
    (table_more c.self.inside.entries.items c.self.inside.packed c.self.inside.wide.entries c.self.invariant c.find_or_keep.new.self
    c.in_err-number.ensures.failed c.in_err-number.ensures.still)

pub invariant_of-self-in-Some : goal.invariant_of-self-in-Some
invariant_of-self-in-Some c =
    subst (λ (l : List AtomKey). IsAtomTable l c.find_or_keep.new.self c.self.inside.wide.entries) (sym c.reserve.ensures.items)
    (table_more c.self.inside.entries.items c.self.inside.packed c.self.inside.wide.entries c.self.invariant c.find_or_keep.new.self
    (λ number_of. c.in_ok-number.ensures.right number_of (λ none. let never = sym c.in-Some.is ∙ none in cc)) c.in_ok-number.ensures.still)

pub invariant_of-self-in-None : goal.invariant_of-self-in-None
invariant_of-self-in-None c =
    let at = goal.at.invariant_of-self-in-None c in
    subst (λ (l : List AtomKey). IsAtomTable l c.find_or_keep.new.self c.self.inside.wide.entries) (sym (items at.After-push_reserved))
    (table_packed c.self.inside.entries.items c.self.inside.packed c.self.inside.wide.entries c.self.invariant c.find_or_keep.new.self c.args.key c.requires (absent at.In-None)
    (λ number_of is. c.in_ok-number.ensures.right number_of (λ none. is ∙ ap Some (sym (next_there at.In-None)))) c.in_ok-number.ensures.known c.in_ok-number.ensures.still)

pub returns-in-Some-clause-ok : goal.returns-in-Some-clause-ok
returns-in-Some-clause-ok c =
    let at = goal.at.returns-in-Some-clause-ok c in
    ap (atoms_of c.self.inside.wide.entries) c.reserve.ensures.items
    ∙ sym (insert_key-known _ (atom_of c.args.key) c.in-Some.number (numbered at.In-Some))
    ∙ ap (λ (l : List Atom). insert_key atom_eq l (atom_of c.args.key)) c.self.view_is

pub returns-in-Some-clause-number : goal.returns-in-Some-clause-number
returns-in-Some-clause-number c =
    let at = goal.at.returns-in-Some-clause-number c in
    ap (λ (l : List AtomKey). slice_get (atoms_of c.self.inside.wide.entries l) c.in-Some.number) c.reserve.ensures.items
    ∙ number_in-at _ (atom_of c.args.key) c.in-Some.number (numbered at.In-Some)

pub returns-in-None-clause-ok : goal.returns-in-None-clause-ok
returns-in-None-clause-ok c =
    let at = goal.at.returns-in-None-clause-ok c in
    longer at.After-push_reserved
    ∙ sym (insert_key-new _ (atom_of c.args.key) (absent at.In-None))
    ∙ ap (λ (l : List Atom). insert_key atom_eq l (atom_of c.args.key)) c.self.view_is

pub returns-in-None-clause-number : goal.returns-in-None-clause-number
returns-in-None-clause-number c =
    let at = goal.at.returns-in-None-clause-number c in
    let atoms : List Atom = atoms_of c.self.inside.wide.entries c.self.inside.entries.items in
    ap (λ (l : List Atom). slice_get l c.in_ok-next.next) (longer at.After-push_reserved)
    ∙ ap (slice_get (atoms ++ atom_of c.args.key ∷ [])) (next_there at.In-None)
    ∙ at_end atoms (atom_of c.args.key)
