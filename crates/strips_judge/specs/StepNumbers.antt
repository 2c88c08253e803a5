-- Steps by numbers: that of the action, and those of the objects.

use Rattle.std.specs.Prelude.{◌≡◌, ◌<◌, ℕ, Bool, true, false, List, [], ◌∷◌, Option, Some, All, length, map}
use Rattle.strips_task.specs.declared.steps.StepText.{StepText}
use Rattle.strips_task.specs.declared.tasks.TaskParts.{TaskParts}
use Rattle.strips_task.specs.Names.{number_named}
use Rattle.std.specs.Option.{option_or}
use Rattle.strips_task.specs.declared.actions.Action.{Action}
use Rattle.strips_judge.specs.declared.verdict.Why.{Why}
use Rattle.strips_judge.specs.State.{State}
use Rattle.strips_judge.specs.Step.{objects_named, argument_fault, conditions_by, missing, missing_why}

-- the number of the action or of the object that a word names, if there is one
abbrev pub number_by : TaskParts → Bool → List ℕ → Option ℕ
number_by parts true word = number_named parts.actions word
number_by parts false word = number_named parts.objects word

-- the numbers that the words of a step name: the first word names an action, the others objects
abbrev pub numbers_named : TaskParts → List (List ℕ) → List (Option ℕ)
numbers_named parts [] = []
numbers_named parts (action ∷ args) = number_named parts.actions action ∷ map (number_named parts.objects) args

-- all words of a step name something, and these are the numbers
abbrev pub IsNumbered : TaskParts → StepText → List ℕ → Type 0
IsNumbered parts step numbers = numbers_named parts (step.action ∷ step.args) ≡ map Some numbers

-- a task has an action and objects with these numbers
abbrev pub AreWithin : TaskParts → List ℕ → Type 0
AreWithin parts [] = Unit {0}
AreWithin parts (action ∷ objects) = (action < length parts.actions) × All (λ object. object < length parts.objects) objects

-- why a step of this action is not applicable in a state, if it is not
abbrev pub action_hindrance : TaskParts → State → Action → List (List ℕ) → Option Why
action_hindrance parts state action args =
    option_or (argument_fault parts action args) (missing_why (missing parts state (conditions_by (objects_named parts args) (Some action))))
