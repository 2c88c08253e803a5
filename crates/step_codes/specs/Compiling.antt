-- Compiled effects: programs that find what effects change.

use Rattle.std.specs.Prelude.{◌≡◌, ℕ, Bool, List, [], ◌++◌, All, if◌then◌else◌}
use Rattle.formulas.specs.declared.atoms.Atom.{Atom}
use Rattle.formulas.specs.Tree.{Tree}
use Rattle.strips_task.specs.declared.tasks.TaskParts.{TaskParts}
use Rattle.step_codes.specs.declared.programs.Instruction.{Instruction}
use Rattle.strips_judge.specs.Choices.{holds_bound}
use Rattle.strips_judge.specs.NumberedState.{AreNumbers}
use Rattle.strips_judge.specs.Gathered.{Found}
use Rattle.step_codes.specs.Programs.{AreBitsOf, IsNumber, numbers_changed}
use Rattle.strips_judge.specs.State.{State}
use Rattle.strips_judge.specs.Statics.{KeepsStatics}

-- what effects change in each state
abbrev pub FoundIn : Type 0
FoundIn = State → Found

-- in every state in which static atoms are as at the start, a program finds the numbers of the atoms that effects change there; it finds only
-- numbers of atoms, whatever the bits are, and then goes on with what follows it
pub record Finds (parts : TaskParts) (atoms : List Atom) (program : List Instruction) (found : FoundIn) : Type 0 where
  pub numbers : (state : State) (bits : ℕ → Bool) → KeepsStatics parts state → AreBitsOf atoms state bits → (truth : Bool) → AreNumbers atoms (found state truth) (numbers_changed bits truth 0 program)
  pub within : (bits : ℕ → Bool) (truth : Bool) → All (IsNumber atoms) (numbers_changed bits truth 0 program)
  pub goes_on : (bits : ℕ → Bool) (truth : Bool) (rest : List Instruction)
      → numbers_changed bits truth 0 (program ++ rest) ≡ numbers_changed bits truth 0 program ++ numbers_changed bits truth 0 rest

-- a program is an earlier one and then instructions that find this
pub record FindsMore (parts : TaskParts) (atoms : List Atom) (old new : List Instruction) (found : FoundIn) : Type 0 where
  pub more : List Instruction
  pub is : new ≡ old ++ more
  pub finds : Finds parts atoms more found

-- what is found in the states in which a formula holds, with these objects for the parameters and the variables bound around it
abbrev pub where_it_holds : TaskParts → List ℕ → List ℕ → Tree → FoundIn → FoundIn
where_it_holds parts objects bound condition found state truth = if holds_bound parts state objects bound condition then found state truth else []
