-- Which step of a plan changed an atom last, to explain conditions that do not hold.

use Rattle.std.specs.Prelude.{◌≡◌, ◌≢◌, ℕ, ◌-◌, ◌<◌, ◌≤◌, true, false, List, Option, Some, None, fold, length, slice_get, take}
use Rattle.std.specs.List.{AllZip}
use Rattle.formulas.specs.declared.atoms.Atom.{Atom}
use Rattle.strips_task.specs.declared.steps.StepText.{StepText}
use Rattle.strips_task.specs.declared.tasks.TaskParts.{TaskParts}
use Rattle.strips_judge.specs.declared.verdict.Verdict.{Verdict}
use Rattle.strips_judge.specs.declared.verdict.Verdict.TheVariants.{Valid, Fails, Goal, Unreadable}
use Rattle.strips_judge.specs.State.{State, is_in}
use Rattle.strips_judge.specs.Step.{adds, after, deletes}

-- the state after the first `count` steps of a plan
abbrev pub state_after : TaskParts → List StepText → ℕ → State
state_after parts steps count = fold (after parts) (is_in parts.init) (take count steps)

-- the step with this number, counted from 1, changes whether the atom is true
pub record Changes (parts : TaskParts) (steps : List StepText) (atom : Atom) (number : ℕ) : Type 0 where
  pub counted : 0 < number
  pub within : number ≤ length steps
  pub differs : state_after parts steps (number - 1) atom ≢ state_after parts steps number atom

-- no step after this number of steps changes whether the atom is true
abbrev pub Stays : TaskParts → List StepText → Atom → ℕ → Type 0
Stays parts steps atom count = (k : ℕ) → count ≤ k → k ≤ length steps → state_after parts steps k atom ≡ state_after parts steps count atom

-- the last step that changes whether the atom is true, if one does
abbrev pub IsLastChange : TaskParts → List StepText → Atom → Option ℕ → Type 0
IsLastChange parts steps atom (Some number) = Changes parts steps atom number × Stays parts steps atom number
IsLastChange parts steps atom None = Stays parts steps atom 0

-- for each atom, in order, the last step that changes it
abbrev pub AreLastChanges : TaskParts → List StepText → List Atom → List (Option ℕ) → Type 0
AreLastChanges parts steps atoms changes = AllZip (IsLastChange parts steps) atoms changes

-- the steps that are taken before the verdict is clear: those before the step that fails, or all
abbrev pub steps_taken : Verdict → List StepText → List StepText
steps_taken (Fails number why) steps = take (number - 1) steps
steps_taken (Valid count) steps = steps
steps_taken (Goal missing) steps = steps
steps_taken (Unreadable line) steps = steps

-- a step makes an atom true, in the state before it, if it adds it there, even if it deletes it too
abbrev pub MakesTrue : TaskParts → State → StepText → Atom → Type 0
MakesTrue parts before step atom = is_in (adds parts before step) atom ≡ true

-- a step makes an atom false, in the state before it, if it deletes it there and does not add it
abbrev pub MakesFalse : TaskParts → State → StepText → Atom → Type 0
MakesFalse parts before step atom =
    (is_in (deletes parts before step) atom ≡ true)
    × (is_in (adds parts before step) atom ≡ false)

-- the last step that changes an atom makes it what it is at the end: it adds it, or deletes it and does not add it
abbrev pub LastChangesAreEffects : TaskParts → Type 0
LastChangesAreEffects parts =
    (steps : List StepText) (atom : Atom) (number : ℕ) (step : StepText) → IsLastChange parts steps atom (Some number) → slice_get steps (number - 1) ≡ Some step
    → (state_after parts steps (length steps) atom ≡ true → MakesTrue parts (state_after parts steps (number - 1)) step atom)
    × (state_after parts steps (length steps) atom ≡ false → MakesFalse parts (state_after parts steps (number - 1)) step atom)
