-- Atoms of more than four objects with their numbers.

use Rattle.std.specs.Prelude.{ℕ, List, Option}
use Rattle.std.specs.Map.{lookup}
use Rattle.formulas.specs.declared.atoms.Atom.{Atom}
use Rattle.formulas.specs.Atom.{atom_eq}

-- the number beside an atom
abbrev pub long_number : List (Atom × ℕ) → Atom → Option ℕ
long_number numbers atom = lookup (atom_eq atom) numbers
