-- A judge that takes the steps of a plan one after the other.

use Rattle.std.specs.Prelude.{◌≡◌, ℕ, List, Option, Some, None, length}
use Rattle.strips_task.specs.declared.steps.StepText.{StepText}
use Rattle.strips_task.specs.declared.tasks.TaskParts.{TaskParts}
use Rattle.strips_judge.specs.NumberedState.{Numbered, state_of}
use Rattle.strips_judge.specs.State.{is_in}
use Rattle.strips_judge.specs.Validity.{LeadTo}
use Rattle.strips_judge.specs.declared.verdict.Verdict.{Verdict}
use Rattle.strips_judge.specs.declared.verdict.Verdict.TheVariants.{Valid, Fails, Goal, Unreadable}
use Rattle.plan_cost.specs.declared.costs.Cost.{Cost}
use Rattle.plan_cost.specs.declared.costs.Cost.TheVariants.{NotCounted}
use Rattle.strips_task.specs.declared.costs.CostedTask.{CostedTask}
use Rattle.strips_task.specs.declared.costs.Costs.{Costs}
use Rattle.plan_cost.specs.Costs.{steps_cost, cost_answer}

-- what a judge keeps of the plan that it is judging: the task, the state, the cost so far, if it is defined, and how many steps were taken
pub record Judging : Type 0 where
  pub task : CostedTask
  pub state : Numbered
  pub cost : Option ℕ
  pub count : ℕ

-- this is what the steps cost so far, if the task counts costs
abbrev pub IsCostSoFar : TaskParts → Option Costs → List StepText → Option ℕ → Type 0
IsCostSoFar parts (Some costs) steps cost = cost ≡ steps_cost parts costs steps
IsCostSoFar parts None steps cost = Unit {0}

-- the cost that goes with a verdict, if this is the cost of a valid plan: there is none without costs or for another verdict
abbrev pub cost_by : Option Costs → Verdict → Option ℕ → Cost
cost_by (Some costs) (Valid steps) cost = cost_answer cost
cost_by (Some costs) (Fails step why) cost = NotCounted
cost_by (Some costs) (Goal missing) cost = NotCounted
cost_by (Some costs) (Unreadable line) cost = NotCounted
cost_by None answer cost = NotCounted

-- these steps were taken: each is applicable in its turn, they lead from the initial state to the one that is kept, and count and cost are theirs
pub record HasTaken (judging : Judging) (steps : List StepText) : Type 0 where
  pub run : LeadTo judging.task.task (is_in judging.task.task.init) steps (state_of judging.state)
  pub count : judging.count ≡ length steps
  pub cost : IsCostSoFar judging.task.task judging.task.costs steps judging.cost
