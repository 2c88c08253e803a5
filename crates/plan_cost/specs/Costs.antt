-- What a plan costs (PDDL 2.1, Fox and Long 2003, section 4): the initial value of `total-cost`, and what the steps add to it. All numbers
-- are billionths.

use Rattle.std.specs.Prelude.{ℕ, ◌+◌, List, [], ◌∷◌, Option, Some, None, map, slice_get, unwrap_or, option_and_then}
use Rattle.std.specs.List.{flat_map}
use Rattle.formulas.specs.declared.atoms.Atom.{Atom}
use Rattle.strips_task.specs.declared.plans.Plan.{Plan}
use Rattle.strips_task.specs.declared.plans.Plan.TheVariants.{Steps, Unreadable}
use Rattle.strips_task.specs.declared.steps.StepText.{StepText}
use Rattle.strips_task.specs.declared.tasks.TaskParts.{TaskParts}
use Rattle.strips_task.specs.Names.{number_named}
use Rattle.formulas.specs.Meaning.{object_of}
use Rattle.strips_judge.specs.Step.{objects_named}
use Rattle.strips_task.specs.declared.amounts.Amount.{Amount}
use Rattle.strips_task.specs.declared.amounts.Amount.TheVariants.{Number, Function}
use Rattle.plan_cost.specs.declared.costs.Cost.{Cost}
use Rattle.plan_cost.specs.declared.costs.Cost.TheVariants.{NotCounted, Undefined, Billionths}
use Rattle.strips_task.specs.declared.costs.Costs.{Costs}
use Rattle.strips_task.specs.Values.{value_of, initial_cost}

-- an amount when the parameters stand for these objects: its number, or the value of its ground function, if that has one
abbrev pub amount_of : List (Atom × ℕ) → List ℕ → Amount → Option ℕ
amount_of values objects (Number number) = Some number
amount_of values objects (Function function terms) = value_of values (record { pred = function; args = map (object_of objects []) terms })

-- the increases of the action that a word names; a word that names no action has none
abbrev pub increases_of : TaskParts → Costs → List ℕ → List Amount
increases_of parts costs word = unwrap_or (option_and_then (slice_get costs.increases) (number_named parts.actions word)) []

-- the amounts that a step adds, one for each increase of its action
abbrev pub step_amounts : TaskParts → Costs → StepText → List (Option ℕ)
step_amounts parts costs step = map (amount_of costs.values (objects_named parts step.args)) (increases_of parts costs step.action)

-- the sum of two amounts, undefined if one of them is
abbrev pub added : Option ℕ → Option ℕ → Option ℕ
added (Some amount) (Some other) = Some (amount + other)
added (Some amount) None = None
added None other = None

-- the sum of amounts, undefined if one of them is
abbrev pub sum_of : List (Option ℕ) → Option ℕ
sum_of [] = Some 0
sum_of (amount ∷ amounts) = added amount (sum_of amounts)

-- what steps cost: the initial value and all amounts of all steps
abbrev pub steps_cost : TaskParts → Costs → List StepText → Option ℕ
steps_cost parts costs steps = sum_of (Some (initial_cost costs) ∷ flat_map (step_amounts parts costs) steps)

-- a sum as an answer
abbrev pub cost_answer : Option ℕ → Cost
cost_answer (Some cost) = Billionths cost
cost_answer None = Undefined

-- what a plan costs, whether it is valid or not: steps that are not applicable count like others
abbrev pub cost_of : TaskParts → Costs → Plan → Cost
cost_of parts costs (Steps steps) = cost_answer (steps_cost parts costs steps)
cost_of parts costs (Unreadable line) = NotCounted
