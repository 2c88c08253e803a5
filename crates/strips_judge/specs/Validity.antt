-- Whether a plan is valid, in the words of PDDL: by the states that it runs through (PDDL 2.1, Fox and Long 2003, section 6).

use Rattle.std.specs.Prelude.{◌≡◌, ℕ, ◌+◌, List, [], Some, None, All, IsTrue, length, slice_get, take}
use Rattle.formulas.specs.Tree.{Tree}
use Rattle.strips_task.specs.declared.plans.Plan.{Plan}
use Rattle.strips_task.specs.declared.plans.Plan.TheVariants.{Steps, Unreadable}
use Rattle.strips_task.specs.declared.steps.StepText.{StepText}
use Rattle.strips_task.specs.declared.tasks.TaskParts.{TaskParts}
use Rattle.strips_judge.specs.State.{State, is_in, holds}
use Rattle.strips_judge.specs.Step.{fault, precondition, after}

-- all formulas hold in the state
abbrev pub Satisfies : TaskParts → State → List Tree → Type 0
Satisfies parts state conditions = All (λ condition. IsTrue (holds parts state [] condition)) conditions

-- a step is applicable in a state if it has no fault and its precondition holds
pub record IsApplicable (parts : TaskParts) (state : State) (step : StepText) : Type 0 where
  pub faultless : fault parts step ≡ None
  pub satisfied : Satisfies parts state (precondition parts step)

-- a run of steps is a list of states, one more than the steps: the first is the start, each step is applicable in the state with its index,
-- and the next state is the one after the step
pub record IsRun (parts : TaskParts) (start : State) (states : List State) (steps : List StepText) : Type 0 where
  pub one_more : length states ≡ length steps + 1
  pub starts : slice_get states 0 ≡ Some start
  pub applicable : (k : ℕ) (state : State) (step : StepText) → slice_get states k ≡ Some state → slice_get steps k ≡ Some step → IsApplicable parts state step
  pub successor : (k : ℕ) (state : State) (step : StepText) → slice_get states k ≡ Some state → slice_get steps k ≡ Some step → slice_get states (k + 1) ≡ Some (after parts state step)

-- the steps have a run, and its last state is this one
abbrev pub LeadTo : TaskParts → State → List StepText → State → Type 0
LeadTo parts start steps end = (states : List State) × IsRun parts start states steps × (slice_get states (length steps) ≡ Some end)

-- the steps are a valid plan if they lead to a state in which the goal holds
abbrev pub AreValid : TaskParts → List StepText → Type 0
AreValid parts steps = (end : State) × LeadTo parts (is_in parts.init) steps end × Satisfies parts end parts.goal

-- the plan fails at this step, counted from 1: the steps before it have a run, and it is not applicable in the state to which they lead
abbrev pub FailAt : TaskParts → List StepText → ℕ → Type 0
FailAt parts steps number = (before : ℕ) × (step : StepText) × (state : State) × (number ≡ before + 1) × (slice_get steps before ≡ Some step)
    × LeadTo parts (is_in parts.init) (take before steps) state × (IsApplicable parts state step → ⊥)

-- the steps miss the goal: they lead to a state in which it does not hold
abbrev pub MissGoal : TaskParts → List StepText → Type 0
MissGoal parts steps = (end : State) × LeadTo parts (is_in parts.init) steps end × (Satisfies parts end parts.goal → ⊥)

-- a plan is valid if it was read and its steps are valid; the number is that of its steps
abbrev pub IsValidPlan : TaskParts → Plan → ℕ → Type 0
IsValidPlan parts (Steps steps) count = AreValid parts steps × (length steps ≡ count)
IsValidPlan parts (Unreadable line) count = ⊥

-- a plan first fails at this step, counted from 1
abbrev pub IsFirstFailure : TaskParts → Plan → ℕ → Type 0
IsFirstFailure parts (Steps steps) number = FailAt parts steps number
IsFirstFailure parts (Unreadable line) number = ⊥

-- a plan has a run and misses the goal
abbrev pub IsGoalMissed : TaskParts → Plan → Type 0
IsGoalMissed parts (Steps steps) = MissGoal parts steps
IsGoalMissed parts (Unreadable line) = ⊥
