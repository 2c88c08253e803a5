-- Tables of atoms: one more atom is found, and those before it stay found.

use Rattle.std.proofs.Common.{◌≡◌, ◌≤◌, ◌<◌, ◌+◌, ◌/◌, ℕ, suc, Bool, true, false, cond, leb, List, [], ◌∷◌, ◌++◌, All, Option, Some, None, OnOk, Result, Ok, Err, get_or, length, length-append, refl, ap, sym, ◌∙◌, subst, arith}
use Rattle.std.proofs.lemmas.Bool.{le-leb, leb-false, lt-leb}
use Rattle.std.proofs.lemmas.List.{map-append}
use Rattle.std.proofs.lemmas.List.Elements.{All-push}
use Rattle.std.specs.Option.{option_map_or}
use Rattle.formulas.specs.declared.atoms.Atom.{Atom}
use Rattle.strips_task.specs.declared.atom_keys.AtomKey.{AtomKey}
use Rattle.formulas.specs.Atom.{atom_eq}
use Rattle.strips_task.specs.AtomKeys.{IsKeyOf, atom_of, key_of}
use Rattle.strips_task.specs.AtomNumbers.{number_in}
use Rattle.strips_task.specs.AtomTables.{AreKept, IsAtomTable, atom_at, atoms_of, long_atom}
use Rattle.strips_task.specs.KnownAtoms.{AreRight, IsKnown, Known, key_in}
use Rattle.strips_task.specs.LongAtoms.{long_number}
use Rattle.strips_task.proofs.AtomEquality.{atom_same}
use Rattle.strips_task.proofs.AtomKeys.{few_said}
use Rattle.strips_task.proofs.Numbered.{at_end, slice_get-more}
use Rattle.strips_task.proofs.Numbering.{index-stays, number_in-push_new, number_in-push_other}

-- what a call leaves if it succeeds is the same as another value
pub same_if_ok : {A X E : Type 0} (result : Result X E) (more some other : A) → some ≡ other → OnOk result (more ≡ some) → OnOk result (more ≡ other)
same_if_ok (Ok x) more some other same is = is ∙ same
same_if_ok (Err e) more some other same is = tt

-- what is said of an entry for an atom of many objects
abbrev IsWithin : List (Atom × ℕ) → AtomKey → Type 0
IsWithin long entry = 4 < entry.head / 65536 → entry.objects < length long

-- the atom of an entry of few objects
atom_at-packed : (long : List (Atom × ℕ)) (entry : AtomKey) → entry.head / 65536 ≤ 4 → atom_at long entry ≡ atom_of entry
atom_at-packed long entry few = ap (λ b. cond b (atom_of entry) (long_atom long entry.objects)) (le-leb (entry.head / 65536) 4 few)

-- an entry of few objects adds its atom
pub atoms_of-packed : (long : List (Atom × ℕ)) (entries : List AtomKey) (entry : AtomKey) → entry.head / 65536 ≤ 4
    → atoms_of long (entries ++ entry ∷ []) ≡ atoms_of long entries ++ atom_of entry ∷ []
atoms_of-packed long entries entry few = map-append (atom_at long) entries (entry ∷ []) ∙ ap (λ a. atoms_of long entries ++ a ∷ []) (atom_at-packed long entry few)

-- the atom with an index stays when others come behind it
long_atom-more : (long more : List (Atom × ℕ)) (index : ℕ) → index < length long → long_atom (long ++ more) index ≡ long_atom long index
long_atom-more long more index within = ap (λ o. option_map_or (λ entry. entry.0) o (record { pred = 0; args = [] })) (slice_get-more long more index within)

-- an entry stands for the same atom when an atom of many objects is added behind those that there are
atom_at-more : (long more : List (Atom × ℕ)) (entry : AtomKey) → IsWithin long entry → atom_at (long ++ more) entry ≡ atom_at long entry
atom_at-more long more entry within = by (leb (entry.head / 65536) 4) refl
  where
    by : (b : Bool) → leb (entry.head / 65536) 4 ≡ b → atom_at (long ++ more) entry ≡ atom_at long entry
    by true is =
        ap (λ b. cond b (atom_of entry) (long_atom (long ++ more) entry.objects)) is
        ∙ sym (ap (λ b. cond b (atom_of entry) (long_atom long entry.objects)) is)
    by false is =
        let many : 4 < entry.head / 65536 = leb-false (entry.head / 65536) 4 is in
        ap (λ b. cond b (atom_of entry) (long_atom (long ++ more) entry.objects)) is
        ∙ long_atom-more long more entry.objects (within many)
        ∙ sym (ap (λ b. cond b (atom_of entry) (long_atom long entry.objects)) is)

-- and so do all entries
atoms_of-more : (long more : List (Atom × ℕ)) (entries : List AtomKey) → All (IsWithin long) entries → atoms_of (long ++ more) entries ≡ atoms_of long entries
atoms_of-more long more [] within = refl
atoms_of-more long more (entry ∷ entries) within =
    λ j. atom_at-more long more entry (within 0 entry (omega arith)) j ∷ atoms_of-more long more entries (λ k d lt. within (suc k) d (omega arith)) j

-- an entry for an atom of many objects, which is added behind those that there are, adds this atom
pub atoms_of-many : (long more : List (Atom × ℕ)) (entries : List AtomKey) (atom : Atom) (number : ℕ) (entry : AtomKey) → All (IsWithin long) entries
    → more ≡ long ++ (atom, number) ∷ [] → entry.objects ≡ length long → 4 < entry.head / 65536
    → atoms_of more (entries ++ entry ∷ []) ≡ atoms_of long entries ++ atom ∷ []
atoms_of-many long more entries atom number entry within is at many =
    ap (λ l. atoms_of l (entries ++ entry ∷ [])) is
    ∙ map-append (atom_at (long ++ (atom, number) ∷ [])) entries (entry ∷ [])
    ∙ (λ j. atoms_of-more long ((atom, number) ∷ []) entries within j ++ here j ∷ [])
  where
    here : atom_at (long ++ (atom, number) ∷ []) entry ≡ atom
    here =
        ap (λ b. cond b (atom_of entry) (long_atom (long ++ (atom, number) ∷ []) entry.objects)) (lt-leb (entry.head / 65536) 4 many)
        ∙ ap (long_atom (long ++ (atom, number) ∷ [])) at
        ∙ ap (λ o. option_map_or (λ (e : Atom × ℕ). e.0) o (record { pred = 0; args = [] })) (at_end long (atom, number))

module _ (atoms : List Atom) (slots : Known) (long : List (Atom × ℕ)) (atom : Atom) (found : AreKept atoms slots long) (none : number_in atoms atom ≡ None) where
  -- the slots are still right
  right_for_more : AreRight (λ key. number_in (atoms ++ atom ∷ []) (atom_of key)) slots
  right_for_more = λ k d lt full. index-stays (atom_eq (atom_of (key_in (get_or slots.slots k d)))) 0 _ atoms (atom ∷ []) (found.right k d lt full)

  -- the atom is another one than one with more or fewer objects
  other_length : (other : Atom) → (length other.args ≡ length atom.args → ⊥) → atom_eq atom other ≡ false
  other_length other apart = by (atom_eq atom other) refl
    where
      by : (b : Bool) → atom_eq atom other ≡ b → atom_eq atom other ≡ false
      by false is = is
      by true is = absurd (apart (ap (λ (a : Atom). length a.args) (sym (atom_same atom other is))))

  -- another atom has the number that it had
  as_before : (other : Atom) → atom_eq atom other ≡ false → number_in (atoms ++ atom ∷ []) other ≡ number_in atoms other
  as_before other apart = number_in-push_other atoms atom atom other refl apart

  -- one atom of few objects more
  found_packed : (new : Known) → length atom.args ≤ 4 → ((other : AtomKey) → IsKnown slots other → IsKnown new other) → IsKnown new (key_of atom)
      → AreRight (λ key. number_in (atoms ++ atom ∷ []) (atom_of key)) new → AreKept (atoms ++ atom ∷ []) new long
  found_packed new are_few still here right =
      record {
        right = right;
        few = few;
        many = λ other are_many. found.many other are_many ∙ sym (as_before other (other_length other (λ same. absurd (omega (arith, are_few, are_many, same)))));
      }
    where
      few : (other : Atom) (number : ℕ) → length other.args ≤ 4 → number_in (atoms ++ atom ∷ []) other ≡ Some number → IsKnown new (key_of other)
      few other number le at = by (atom_eq atom other) refl
        where
          by : (b : Bool) → atom_eq atom other ≡ b → IsKnown new (key_of other)
          by true is = subst (λ (a : Atom). IsKnown new (key_of a)) (atom_same atom other is) here
          by false is = still (key_of other) (found.few other number le (sym (as_before other is) ∙ at))

  -- one atom of many objects more
  found_many : (more : List (Atom × ℕ)) → 4 < length atom.args → long_number more atom ≡ Some (length atoms)
      → ((other : Atom) → atom_eq atom other ≡ false → long_number more other ≡ long_number long other) → AreKept (atoms ++ atom ∷ []) slots more
  found_many more are_many here others =
      record {
        right = right_for_more;
        few = λ other number le at. found.few other number le (sym (as_before other (other_length other (λ same. absurd (omega (arith, are_many, le, same))))) ∙ at);
        many = many;
      }
    where
      many : (other : Atom) → 4 < length other.args → long_number more other ≡ number_in (atoms ++ atom ∷ []) other
      many other lt = by (atom_eq atom other) refl
        where
          by : (b : Bool) → atom_eq atom other ≡ b → long_number more other ≡ number_in (atoms ++ atom ∷ []) other
          by true is =
              subst (λ (a : Atom). long_number more a ≡ number_in (atoms ++ atom ∷ []) a) (atom_same atom other is)
              (here ∙ sym (number_in-push_new atoms atom atom refl none))
          by false is = others other is ∙ found.many other lt ∙ sym (as_before other is)

-- a table without atoms
pub table_none : (slots : Known) (long : List (Atom × ℕ)) → ((number_of : AtomKey → Option ℕ) → AreRight number_of slots) → ((atom : Atom) → long_number long atom ≡ None) → IsAtomTable [] slots long
table_none slots long right none = record {
  found = record { right = right (λ key. number_in (atoms_of long []) (atom_of key)); few = λ atom number le at. cc; many = λ atom lt. none atom };
  within = λ k d lt. absurd (omega arith);
}

module _ (entries : List AtomKey) (slots : Known) (long : List (Atom × ℕ)) (table : IsAtomTable entries slots long) where
  -- slots in which at least the same is known
  pub table_more : (new : Known) → ((number_of : AtomKey → Option ℕ) → AreRight number_of slots → AreRight number_of new)
      → ((key : AtomKey) → IsKnown slots key → IsKnown new key) → IsAtomTable entries new long
  table_more new right still = record {
    found = record {
      right = right (λ key. number_in (atoms_of long entries) (atom_of key)) table.found.right;
      few = λ atom number le at. still (key_of atom) (table.found.few atom number le at);
      many = table.found.many;
    };
    within = table.within;
  }

  -- an atom of few objects that is not among the slots has no number
  pub absent_packed : (key : AtomKey) → IsKeyOf (atom_of key) key → (IsKnown slots key → ⊥) → number_in (atoms_of long entries) (atom_of key) ≡ None
  absent_packed key is absent = by (number_in (atoms_of long entries) (atom_of key)) refl
    where
      by : (o : Option ℕ) → number_in (atoms_of long entries) (atom_of key) ≡ o → number_in (atoms_of long entries) (atom_of key) ≡ None
      by None none = none
      by (Some number) some = absurd (absent (subst (IsKnown slots) (sym is.key_is) (table.found.few (atom_of key) number is.few some)))

  -- one more entry for an atom of few objects
  pub table_packed : (new : Known) (key : AtomKey) → IsKeyOf (atom_of key) key → number_in (atoms_of long entries) (atom_of key) ≡ None
      → ((number_of : AtomKey → Option ℕ) → number_of key ≡ Some (length (atoms_of long entries)) → AreRight number_of slots → AreRight number_of new)
      → IsKnown new key → ((other : AtomKey) → IsKnown slots other → IsKnown new other) → IsAtomTable (entries ++ key ∷ []) new long
  table_packed new key is none right known still =
      let atoms : List Atom = atoms_of long entries in
      let few : key.head / 65536 ≤ 4 = few_said key is in
      record {
        found = subst (λ (l : List Atom). AreKept l new long) (sym (atoms_of-packed long entries key few))
            (found_packed atoms slots long (atom_of key) table.found none new is.few still (subst (IsKnown new) is.key_is known)
            (right (λ k. number_in (atoms ++ atom_of key ∷ []) (atom_of k)) (number_in-push_new atoms (atom_of key) (atom_of key) refl none)
            (right_for_more atoms slots long (atom_of key) table.found none)));
        within = All-push (IsWithin long) entries key table.within (λ many. absurd (omega (arith, few, many)));
      }

  -- one more entry for an atom of many objects
  pub table_many : (atom : Atom) (number : ℕ) (more : List (Atom × ℕ)) (entry : AtomKey) → 4 < length atom.args → number_in (atoms_of long entries) atom ≡ None
      → number ≡ length (atoms_of long entries) → more ≡ long ++ (atom, number) ∷ [] → entry.objects ≡ length long → 4 < entry.head / 65536
      → long_number more atom ≡ Some number → ((other : Atom) → atom_eq atom other ≡ false → long_number more other ≡ long_number long other)
      → IsAtomTable (entries ++ entry ∷ []) slots more
  table_many atom number more entry are_many none count is at many here others =
      record {
        found = subst (λ (l : List Atom). AreKept l slots more) (sym (atoms_of-many long more entries atom number entry table.within is at many))
            (found_many (atoms_of long entries) slots long atom table.found none more are_many (here ∙ ap Some count) others);
        within = within;
      }
    where
      longer : length more ≡ length long + 1
      longer = omega (arith, ap length is, length-append long ((atom, number) ∷ []))

      within : All (IsWithin more) (entries ++ entry ∷ [])
      within = All-push (IsWithin more) entries entry (λ k d lt has_many. omega (arith, longer, table.within k d lt has_many)) (λ has_many. omega (arith, longer, at))
