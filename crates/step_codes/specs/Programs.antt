-- Programs: how a code finds what conditional effects change, by the numbers of atoms.

use Rattle.std.specs.Prelude.{◌≡◌, ℕ, zero, suc, Bool, List, [], ◌∷◌, Some, if◌then◌else◌}
use Rattle.std.specs.Bool.{beq}
use Rattle.formulas.specs.declared.atoms.Atom.{Atom}
use Rattle.strips_task.specs.AtomNumbers.{number_in}
use Rattle.step_codes.specs.declared.programs.Instruction.{Instruction}
use Rattle.step_codes.specs.declared.programs.Instruction.TheVariants.{Test, Change}
use Rattle.strips_judge.specs.State.{State}

-- an atom has this number
abbrev pub IsNumber : List Atom → ℕ → Type 0
IsNumber atoms number = (atom : Atom) × (number_in atoms atom ≡ Some number)

-- these bits say of each atom with a number whether it is true in the state
abbrev pub AreBitsOf : List Atom → State → (ℕ → Bool) → Type 0
AreBitsOf atoms state bits = (atom : Atom) (number : ℕ) → number_in atoms atom ≡ Some number → bits number ≡ state atom

module _ (bits : ℕ → Bool) (truth : Bool) where
  -- the numbers of the atoms that a program makes true, or with `truth` false of those that it makes false, after it has skipped some of its instructions. A test
  -- that finds another bit than it wants skips those that follow it
  abbrev pub numbers_changed : ℕ → List Instruction → List ℕ
  numbers_changed skipped [] = []
  numbers_changed (suc skipped) (instruction ∷ program) = numbers_changed skipped program
  numbers_changed zero (Test wanted number skip ∷ program) = numbers_changed (if beq (bits number) wanted then 0 else skip) program
  numbers_changed zero (Change made number ∷ program) = if beq made truth then number ∷ numbers_changed 0 program else numbers_changed 0 program
