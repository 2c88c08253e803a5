-- Tasks of literals, and how STRIPS judges a plan of one: without formulas, by atoms that are in a state or not.

use Rattle.std.specs.Prelude.{◌≡◌, ℕ, ◌+◌, Bool, true, false, not, nat_eq, List, [], ◌∷◌, Option, Some, None, All, filter, map}
use Rattle.std.specs.Map.{values_of}
use Rattle.std.specs.Option.{option_or}
use Rattle.formulas.specs.Equality.{tree_eq}
use Rattle.formulas.specs.Meaning.{object_of}
use Rattle.formulas.specs.Tree.{Tree, atom, equality}
use Rattle.strips_task.specs.declared.actions.Action.{Action}
use Rattle.strips_task.specs.declared.plans.Plan.{Plan}
use Rattle.strips_task.specs.declared.plans.Plan.TheVariants.{Steps, Unreadable}
use Rattle.strips_task.specs.declared.steps.StepText.{StepText}
use Rattle.strips_task.specs.declared.tasks.TaskParts.{TaskParts}
use Rattle.strips_task.specs.FirstOccurrences.{first_occurrences}
use Rattle.strips_judge.specs.declared.verdict.Verdict.{Verdict}
use Rattle.strips_judge.specs.declared.verdict.Verdict.TheVariants as answer
use Rattle.strips_judge.specs.declared.verdict.Why.{Why}
use Rattle.strips_judge.specs.Grounding.{ground}
use Rattle.strips_judge.specs.State.{State, is_in, after_effects}
use Rattle.strips_judge.specs.Step.{action_named, objects_named, fault, precondition, missing_why}
use Rattle.strips_judge.specs.Verdict.{goal_verdict, step_verdict}

-- the formula is a literal: an atom, an equality, or the negation of one
abbrev pub IsLiteral : Tree → Type 0
IsLiteral (atom positive pattern) = Unit {0}
IsLiteral (equality positive left right) = Unit {0}
IsLiteral tree = ⊥

-- an action of STRIPS: its precondition is a list of literals, and it has no effect under `when` or `forall`
pub record IsStripsAction (action : Action) : Type 0 where
  pub literal_conditions : All IsLiteral action.pre
  pub sure_effects : action.effects ≡ []

-- a task of literals: its actions are those of STRIPS, and its goal is a list of literals
pub record IsOfLiterals (parts : TaskParts) : Type 0 where
  pub strips_actions : All IsStripsAction (values_of parts.actions)
  pub literal_goal : All IsLiteral parts.goal

-- whether a literal without parameters is satisfied in a state: its atom is in the state, or for a negative one is not; or its two terms are the same
-- object, or for a negative one are not
abbrev pub is_satisfied : State → Tree → Bool
is_satisfied state (atom true pattern) = state (ground [] pattern)
is_satisfied state (atom false pattern) = not (state (ground [] pattern))
is_satisfied state (equality true left right) = nat_eq (object_of [] [] left) (object_of [] [] right)
is_satisfied state (equality false left right) = not (nat_eq (object_of [] [] left) (object_of [] [] right))
is_satisfied state tree = false

-- the literals that are not satisfied, in the order in which they first occur, each once
abbrev pub unsatisfied : State → List Tree → List Tree
unsatisfied state literals = first_occurrences tree_eq (filter (λ literal. not (is_satisfied state literal)) literals)

-- the state after an action with these objects: the state minus its deletes, union its adds
abbrev pub strips_after_by : List ℕ → State → Option Action → State
strips_after_by objects state None = state
strips_after_by objects state (Some action) = after_effects state (map (ground objects) action.del) (map (ground objects) action.add)

-- the state after a step
abbrev pub strips_after : TaskParts → State → StepText → State
strips_after parts state step = strips_after_by (objects_named parts step.args) state (action_named parts step.action)

-- why a step is not applicable in a state, if it is not: its fault, or if it has none, the literals of its precondition that are not satisfied
abbrev pub strips_hindrance : TaskParts → State → StepText → Option Why
strips_hindrance parts state step = option_or (fault parts step) (missing_why (unsatisfied state (precondition parts step)))

-- the verdict of the steps that are left, in this state and after `taken` steps
abbrev pub strips_verdict_from : TaskParts → ℕ → State → List StepText → Verdict
strips_verdict_from parts taken state [] = goal_verdict taken (unsatisfied state parts.goal)
strips_verdict_from parts taken state (step ∷ steps) =
    step_verdict (taken + 1) (strips_hindrance parts state step) (strips_verdict_from parts (taken + 1) (strips_after parts state step) steps)

-- the verdict of a plan, from the state that has the initial atoms
abbrev pub strips_verdict : TaskParts → Plan → Verdict
strips_verdict parts (Steps steps) = strips_verdict_from parts 0 (is_in parts.init) steps
strips_verdict parts (Unreadable line) = answer.Unreadable line
