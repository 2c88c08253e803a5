-- What a judge may rely on.

use Rattle.std.specs.Prelude.{◌≡◌, ℕ, ◌+◌, ◌*◌, ◌^◌, ◌≤◌, List, All, Option, Some, None, unwrap_or}
use Rattle.formulas.specs.declared.atoms.Atom.{Atom}
use Rattle.strips_task.specs.declared.steps.StepText.{StepText}
use Rattle.strips_task.specs.declared.steps.TheConstants.{MOST_STEPS}
use Rattle.strips_task.specs.declared.tasks.TaskParts.{TaskParts}
use Rattle.strips_task.specs.Spelled.{IsSpelled, step_spelled}
use Rattle.step_codes.specs.Codes.{IsCode}
use Rattle.strips_judge.specs.NumberedState.{Numbered}
use Rattle.strips_judge.specs.State.{State}
use Rattle.strips_judge.specs.Step.{hindrance, after}
use Rattle.strips_task.specs.declared.costs.CostedTask.{CostedTask}
use Rattle.strips_task.specs.declared.costs.Costs.{Costs}
use Rattle.plan_cost.specs.Costs.{sum_of, step_amounts}
use Rattle.text_judge.specs.Known.{Known}

-- this is what a step adds to the cost, if the task counts costs
abbrev pub IsAmount : TaskParts → Option Costs → StepText → Option ℕ → Type 0
IsAmount parts (Some costs) step amount = amount ≡ sum_of (step_amounts parts costs step)
IsAmount parts None step amount = Unit {0}

-- a known step is the one that its key spells: with these numbers of atoms, the code is that of the step, and the step adds this amount
pub record IsLearned (task : CostedTask) (atoms : List Atom) (known : Known) : Type 0 where
  pub spelled : IsSpelled known.key
  pub code : IsCode task.task atoms (step_spelled known.key) known.code
  pub amount : IsAmount task.task task.costs (step_spelled known.key) (Some known.amount)

-- a step is applicable in the first state and leads to the second, and this is what it adds to the cost
pub record Takes (task : CostedTask) (old new : State) (step : StepText) (amount : Option ℕ) : Type 0 where
  pub not_hindered : hindrance task.task old step ≡ None
  pub leads : new ≡ after task.task old step
  pub adds : IsAmount task.task task.costs step amount

-- the most that this many steps can cost: an initial value and 32 amounts for each step, of 64 bits each
abbrev pub most_cost : ℕ → ℕ
most_cost count = 2 ^ 64 + count * (32 * 2 ^ 64)

-- what is always true of a judge
pub record IsJudge (task : CostedTask) (state : Numbered) (memo : List Known) (cost : Option ℕ) (count : ℕ) : Type 0 where
  pub initial : state.initial ≡ task.task.init
  pub learned : All (IsLearned task state.atoms) memo
  pub count_within : count ≤ MOST_STEPS
  pub cost_within : unwrap_or cost 0 ≤ most_cost count
