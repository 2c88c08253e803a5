-- What is kept of the atoms that have numbers, so that each is found.

use Rattle.std.specs.Prelude.{◌≡◌, ◌++◌, ℕ, Bool, true, false, List, None, Some, slice_index_or}
use Rattle.formulas.specs.declared.atoms.Atom.{Atom}
use Rattle.strips_task.specs.AtomKeys.{atom_of}
use Rattle.strips_task.specs.AtomNumbers.{number_in}
use Rattle.strips_judge.specs.SingleCells.{Cells, AreCells}

-- no later atom is among the first, the predicate of each later atom is marked, and the cells have the right numbers
pub record AreFound (first later : List Atom) (marks : List Bool) (cells : Cells) : Type 0 where
  pub apart : (atom : Atom) (number : ℕ) → number_in later atom ≡ Some number → number_in first atom ≡ None
  pub marked : (atom : Atom) (number : ℕ) → number_in later atom ≡ Some number → slice_index_or marks atom.pred false ≡ true
  pub right : AreCells (λ key. number_in (first ++ later) (atom_of key)) cells
