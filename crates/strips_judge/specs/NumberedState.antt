-- The state that is kept as numbered atoms with a bit each.

use Rattle.std.specs.Prelude.{◌≡◌, ℕ, ◌≤◌, ◌<◌, ◌*◌, ◌^◌, Bool, false, List, Option, Some, None, length, map}
use Rattle.formulas.specs.declared.atoms.Atom.{Atom}
use Rattle.bit_rows.specs.Rows.{row_has}
use Rattle.strips_task.specs.AtomNumbers.{number_in}
use Rattle.strips_judge.specs.State.{State}

-- a state by numbers: the initial atoms of its task, the atoms that have numbers, each at the index that is its number, and a row of bits
pub record Numbered : Type 0 where
  pub initial : List Atom
  pub atoms : List Atom
  pub bits : List ℕ

-- the bit of an atom with a number; an atom without one is false
abbrev pub bit_of : List ℕ → Option ℕ → Bool
bit_of bits (Some number) = row_has bits number
bit_of bits None = false

-- the state in which an atom is true if its bit is set
abbrev pub state_by : List Atom → List ℕ → State
state_by atoms bits = λ atom. bit_of bits (number_in atoms atom)

-- the state that the bits stand for
abbrev pub state_of : Numbered → State
state_of kept = state_by kept.atoms kept.bits

-- these are the numbers of these atoms
abbrev pub AreNumbers : List Atom → List Atom → List ℕ → Type 0
AreNumbers atoms these numbers = map (number_in atoms) these ≡ map Some numbers

-- each atom that had a number still has the same one
abbrev pub KeepsNumbers : List Atom → List Atom → Type 0
KeepsNumbers old new = (atom : Atom) (number : ℕ) → number_in old atom ≡ Some number → number_in new atom ≡ Some number

-- the initial atoms stay the same, atoms may get numbers, and no number changes
pub record Grows (old new : Numbered) : Type 0 where
  pub initial : new.initial ≡ old.initial
  pub numbers : KeepsNumbers old.atoms new.atoms

-- what is true of the row: it has room for all numbers, and no bit after them is set
pub record IsRowFor (atoms : List Atom) (bits : List ℕ) : Type 0 where
  pub room : length atoms ≤ 64 * length bits
  pub clear : (k : ℕ) → length atoms ≤ k → row_has bits k ≡ false
  pub countable : length atoms < 2 ^ 64
