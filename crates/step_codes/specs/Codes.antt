-- Codes of steps: what a step asks of the state and does to it, by the numbers of its atoms.

use Rattle.std.specs.Prelude.{◌≡◌, ◌↔◌, ℕ, Bool, true, false, List, [], ◌∷◌, ◌++◌, None, All}
use Rattle.formulas.specs.declared.atoms.Atom.{Atom}
use Rattle.formulas.specs.Tree.{Tree}
use Rattle.strips_task.specs.declared.steps.StepText.{StepText}
use Rattle.strips_task.specs.declared.tasks.TaskParts.{TaskParts}
use Rattle.step_codes.specs.declared.codes.StepCode.{StepCode}
use Rattle.step_codes.specs.declared.programs.Instruction.{Instruction}
use Rattle.step_codes.specs.Programs.{AreBitsOf, IsNumber, numbers_changed}
use Rattle.strips_judge.specs.NumberedState.{AreNumbers}
use Rattle.strips_judge.specs.State.{State}
use Rattle.strips_judge.specs.Statics.{KeepsStatics}
use Rattle.strips_judge.specs.Step.{fault, precondition, deletes, adds}
use Rattle.strips_judge.specs.Validity.{Satisfies}

-- the numbers of the atoms that a step needs to be true and to be false, and of those that it always deletes and adds, and a program that finds the others
pub record Code : Type 0 where
  pub needed : List ℕ
  pub forbidden : List ℕ
  pub deleted : List ℕ
  pub added : List ℕ
  pub program : List Instruction

-- the code that is borrowed
abbrev pub code_shown : StepCode → Code
code_shown code = record { needed = code.needed.now; forbidden = code.forbidden.now; deleted = code.deleted.now; added = code.added.now; program = code.program.now }

-- a code asks for these conditions: its numbers are those of atoms such that a state in which static atoms are as at
-- the start satisfies the conditions if and only if the first of these atoms are true in it and the others are false
pub record AsksFor (parts : TaskParts) (atoms : List Atom) (conditions : List Tree) (code : Code) : Type 0 where
  pub trues : List Atom
  pub falses : List Atom
  pub needed : AreNumbers atoms trues code.needed
  pub forbidden : AreNumbers atoms falses code.forbidden
  pub exactly : (state : State) → KeepsStatics parts state → (All (λ atom. state atom ≡ true) trues × All (λ atom. state atom ≡ false) falses) ↔ Satisfies parts state conditions

-- the numbers of the atoms that a code makes true in the state of these bits, or with `truth` false of those that it makes false
abbrev pub numbers_by : (ℕ → Bool) → Bool → Code → List ℕ
numbers_by bits true code = code.added ++ numbers_changed bits true 0 code.program
numbers_by bits false code = code.deleted ++ numbers_changed bits false 0 code.program

-- this is the code of a step, if atoms have these numbers: the step has no fault, and in every state in which static
-- atoms are as at the start the code asks and does what the step asks and does; whatever
-- the bits are, it makes only atoms true that have numbers
pub record IsCode (parts : TaskParts) (atoms : List Atom) (step : StepText) (code : Code) : Type 0 where
  pub faultless : fault parts step ≡ None
  pub asks : AsksFor parts atoms (precondition parts step) code
  pub deleted : (state : State) (bits : ℕ → Bool) → KeepsStatics parts state → AreBitsOf atoms state bits → AreNumbers atoms (deletes parts state step) (numbers_by bits false code)
  pub added : (state : State) (bits : ℕ → Bool) → KeepsStatics parts state → AreBitsOf atoms state bits → AreNumbers atoms (adds parts state step) (numbers_by bits true code)
  pub within : (bits : ℕ → Bool) → All (IsNumber atoms) (numbers_by bits true code)

-- the code that asks for one more atom
abbrev pub asking_more : Code → Bool → ℕ → Code
asking_more code true number = record code { needed = code.needed ++ number ∷ [] }
asking_more code false number = record code { forbidden = code.forbidden ++ number ∷ [] }
