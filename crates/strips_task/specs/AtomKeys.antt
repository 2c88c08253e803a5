-- Keys of atoms of at most four objects.

use Rattle.std.specs.Prelude.{◌≡◌, ◌≤◌, ◌+◌, ◌*◌, ◌/◌, ◌%◌, ℕ, List, [], ◌∷◌, length, slice_index_or, take}
use Rattle.formulas.specs.declared.atoms.Atom.{Atom}
use Rattle.strips_task.specs.declared.atom_keys.AtomKey.{AtomKey}

-- the key of an atom: its objects as the digits of a number, the first one last, and its predicate with how many they are
abbrev pub key_of : Atom → AtomKey
key_of atom = record {
  objects =
      slice_index_or atom.args 0 0 + 65536 * slice_index_or atom.args 1 0 + 4294967296 * slice_index_or atom.args 2 0
      + 281474976710656 * slice_index_or atom.args 3 0;
  head = atom.pred + 65536 * length atom.args;
}

-- the objects of a key, with a 0 for each that the atom does not have
abbrev pub objects_of : ℕ → List ℕ
objects_of objects = objects % 65536 ∷ objects / 65536 % 65536 ∷ objects / 4294967296 % 65536 ∷ objects / 281474976710656 % 65536 ∷ []

-- the atom of a key
abbrev pub atom_of : AtomKey → Atom
atom_of key = record { pred = key.head % 65536; args = take (key.head / 65536) (objects_of key.objects) }

-- a key and an atom of at most four objects belong to each other
pub record IsKeyOf (atom : Atom) (key : AtomKey) : Type 0 where
  pub key_is : key ≡ key_of atom
  pub atom_is : atom_of key ≡ atom
  pub few : length atom.args ≤ 4
