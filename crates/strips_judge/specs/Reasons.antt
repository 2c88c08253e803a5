-- Why a plan fails, in the words of PDDL.

use Rattle.std.specs.Prelude.{◌≡◌, ◌≢◌, ◌⊎◌, ℕ, ◌+◌, false, not, ◌&&◌, List, [], ◌∷◌, Some, None, slice_get, take}
use Rattle.std.specs.List.{list_any}
use Rattle.strips_task.specs.declared.plans.Plan.{Plan}
use Rattle.strips_task.specs.declared.plans.Plan.TheVariants.{Steps, Unreadable}
use Rattle.strips_task.specs.declared.steps.StepText.{StepText}
use Rattle.strips_task.specs.declared.tasks.TaskParts.{TaskParts}
use Rattle.formulas.specs.Equality.{tree_eq}
use Rattle.formulas.specs.Tree.{Tree}
use Rattle.strips_judge.specs.declared.verdict.Verdict.TheVariants as answer
use Rattle.strips_judge.specs.declared.verdict.Why.{Why}
use Rattle.strips_judge.specs.declared.verdict.Why.TheVariants.{Missing}
use Rattle.strips_judge.specs.State.{State, is_in, holds}
use Rattle.strips_judge.specs.Step.{fault, precondition}
use Rattle.strips_judge.specs.Validity.{LeadTo}
use Rattle.strips_judge.specs.Verdict.{verdict}

-- no formula occurs twice in the list
abbrev pub IsEachOnce : List Tree → Type 0
IsEachOnce [] = Unit {0}
IsEachOnce (condition ∷ conditions) = (list_any (tree_eq condition) conditions ≡ false) × IsEachOnce conditions

-- the list `unmet` has exactly those of some formulas that do not hold in the state, each once; there is at least one
pub record AreUnmet (parts : TaskParts) (state : State) (conditions unmet : List Tree) : Type 0 where
  pub some : unmet ≢ []
  pub exactly : (condition : Tree) → list_any (tree_eq condition) unmet ≡ (list_any (tree_eq condition) conditions && not (holds parts state [] condition))
  pub each_once : IsEachOnce unmet

-- a step is not applicable in a state for this reason: it has this fault, or it has none and these conditions of its precondition do not hold
abbrev pub IsReason : TaskParts → State → StepText → Why → Type 0
IsReason parts state step why =
    (fault parts step ≡ Some why)
    ⊎ ((fault parts step ≡ None) × ((unmet : List Tree) × (why ≡ Missing unmet) × AreUnmet parts state (precondition parts step) unmet))

-- a list of steps fails at a step, counted from 1, for a reason: the steps before it lead to a state in which it is not applicable for that reason
abbrev pub FailFor : TaskParts → List StepText → ℕ → Why → Type 0
FailFor parts steps number why = (before : ℕ) × (step : StepText) × (state : State) × (number ≡ before + 1) × (slice_get steps before ≡ Some step)
    × LeadTo parts (is_in parts.init) (take before steps) state × IsReason parts state step why

-- the steps lead to a state in which exactly these conditions of the goal do not hold
abbrev pub LeaveUnmet : TaskParts → List StepText → List Tree → Type 0
LeaveUnmet parts steps unmet = (end : State) × LeadTo parts (is_in parts.init) steps end × AreUnmet parts end parts.goal unmet

-- the same for plans; an unreadable plan does not fail at a step
abbrev pub PlanFailsFor : TaskParts → Plan → ℕ → Why → Type 0
PlanFailsFor parts (Steps steps) number why = FailFor parts steps number why
PlanFailsFor parts (Unreadable line) number why = ⊥

-- a plan of steps leaves exactly these conditions of the goal unmet; an unreadable plan leaves none
abbrev pub PlanLeavesUnmet : TaskParts → Plan → List Tree → Type 0
PlanLeavesUnmet parts (Steps steps) unmet = LeaveUnmet parts steps unmet
PlanLeavesUnmet parts (Unreadable line) unmet = ⊥

-- a verdict that a plan fails gives the reason for which it fails at that step
abbrev pub FailsNamesTheReason : TaskParts → Plan → Type 0
FailsNamesTheReason parts plan = (number : ℕ) (why : Why) → verdict parts plan ≡ answer.Fails number why → PlanFailsFor parts plan number why

-- a verdict that a plan misses its goal lists exactly the conditions that it leaves unmet
abbrev pub GoalNamesTheUnmet : TaskParts → Plan → Type 0
GoalNamesTheUnmet parts plan = (unmet : List Tree) → verdict parts plan ≡ answer.Goal unmet → PlanLeavesUnmet parts plan unmet
