-- The numbers of atoms in a list.

use Rattle.std.specs.Prelude.{ℕ, List, Option}
use Rattle.std.specs.List.{position_from}
use Rattle.formulas.specs.declared.atoms.Atom.{Atom}
use Rattle.formulas.specs.Atom.{atom_eq}

-- the number of an atom in a list, counted from 0, if it is there
abbrev pub number_in : List Atom → Atom → Option ℕ
number_in atoms atom = position_from (atom_eq atom) 0 atoms
