-- Tables of distinct ground atoms.

use Rattle.std.specs.Prelude.{◌≡◌, ◌≤◌, ◌<◌, ◌/◌, ℕ, List, [], All, Some, cond, leb, length, map, slice_get}
use Rattle.std.specs.Option.{option_map_or}
use Rattle.formulas.specs.declared.atoms.Atom.{Atom}
use Rattle.strips_task.specs.declared.atom_keys.AtomKey.{AtomKey}
use Rattle.strips_task.specs.declared.atom_table.KeptAtom.{KeptAtom}
use Rattle.strips_task.specs.declared.atom_table.KeptAtom.TheVariants.{Few, Many}
use Rattle.strips_task.specs.AtomKeys.{atom_of, key_of}
use Rattle.strips_task.specs.AtomNumbers.{number_in}
use Rattle.strips_task.specs.KnownAtoms.{Known, AreRight, IsKnown}
use Rattle.strips_task.specs.LongAtoms.{long_number}

-- the atom that is kept
abbrev pub kept_atom : KeptAtom → Atom
kept_atom (Few key) = atom_of key
kept_atom (Many atom) = atom.now

-- the atom with an index among those of many objects
abbrev pub long_atom : List (Atom × ℕ) → ℕ → Atom
long_atom long index = option_map_or (λ entry. entry.0) (slice_get long index) (record { pred = 0; args = [] })

-- the atom that an entry stands for: that of a key, or the one of many objects with this index
abbrev pub atom_at : List (Atom × ℕ) → AtomKey → Atom
atom_at long entry = cond (leb (entry.head / 65536) 4) (atom_of entry) (long_atom long entry.objects)

-- the atoms of a table, in the order of their numbers
abbrev pub atoms_of : List (Atom × ℕ) → List AtomKey → List Atom
atoms_of long entries = map (atom_at long) entries

-- each atom that has a number is found: the slots have the right numbers, and that of each atom of few objects; beside them are those of the atoms of many
pub record AreKept (atoms : List Atom) (slots : Known) (long : List (Atom × ℕ)) : Type 0 where
  pub right : AreRight (λ key. number_in atoms (atom_of key)) slots
  pub few : (atom : Atom) (number : ℕ) → length atom.args ≤ 4 → number_in atoms atom ≡ Some number → IsKnown slots (key_of atom)
  pub many : (atom : Atom) → 4 < length atom.args → long_number long atom ≡ number_in atoms atom

-- a table: each of its atoms is found, and each entry for an atom of many objects has an index among those
pub record IsAtomTable (entries : List AtomKey) (slots : Known) (long : List (Atom × ℕ)) : Type 0 where
  pub found : AreKept (atoms_of long entries) slots long
  pub within : All (λ entry. 4 < entry.head / 65536 → entry.objects < length long) entries
