-- One step of a plan: what may be wrong with it, and what it does (PDDL 2.1, Fox and Long 2003, section 6).

use Rattle.std.specs.Prelude.{ℕ, ◌==◌, ◌++◌, Bool, true, false, not, List, [], ◌∷◌, Option, Some, None, filter, map, length, slice_get, if◌then◌else◌, option_map, option_and_then, is_none}
use Rattle.std.specs.List.{position_from, filter_map, flat_map, zip}
use Rattle.std.specs.Map.{values_of}
use Rattle.std.specs.Option.{option_or}
use Rattle.strips_task.specs.declared.actions.Action.{Action}
use Rattle.strips_task.specs.declared.steps.StepText.{StepText}
use Rattle.strips_task.specs.declared.tasks.TaskParts.{TaskParts}
use Rattle.strips_task.specs.FirstOccurrences.{first_occurrences}
use Rattle.strips_task.specs.Names.{number_named}
use Rattle.strips_judge.specs.declared.verdict.Why.{Why}
use Rattle.strips_judge.specs.declared.verdict.Why.TheVariants.{UnknownAction, WrongCount, UnknownObject, WrongType, Missing}
use Rattle.formulas.specs.Changes.{changes}
use Rattle.formulas.specs.EffectTree.{EffectTree}
use Rattle.formulas.specs.Equality.{tree_eq}
use Rattle.formulas.specs.Grounding.{with_objects}
use Rattle.formulas.specs.Tree.{Tree}
use Rattle.strips_judge.specs.Fitting.{object_fits}
use Rattle.strips_judge.specs.Grounding.{ground}
use Rattle.strips_judge.specs.State.{State, holds, objects_of, after_effects}
use Rattle.formulas.specs.declared.atoms.Atom.{Atom}

-- the action that a word names, if there is one
abbrev pub action_named : TaskParts → List ℕ → Option Action
action_named parts word = option_and_then (slice_get (values_of parts.actions)) (number_named parts.actions word)

-- the objects that the words name, by number
abbrev pub objects_named : TaskParts → List (List ℕ) → List ℕ
objects_named parts words = filter_map (number_named parts.objects) words

-- no object has this name
abbrev pub is_unknown : TaskParts → List ℕ → Bool
is_unknown parts word = is_none (number_named parts.objects word)

-- the object does not fit the parameter beside it
abbrev pub is_ill_typed : TaskParts → List ℕ × ℕ → Bool
is_ill_typed parts pair = not (object_fits parts pair.0 pair.1)

-- the first argument that names no object, counted from 1
abbrev pub first_unknown : TaskParts → List (List ℕ) → Option ℕ
first_unknown parts args = position_from (is_unknown parts) 1 args

-- the first argument whose object does not fit its parameter, counted from 1
abbrev pub first_ill_typed : TaskParts → Action → List (List ℕ) → Option ℕ
first_ill_typed parts action args = position_from (is_ill_typed parts) 1 (zip action.params (objects_named parts args))

-- the first fault of a step of this action: the number of arguments, then an argument that names no object, then one that does not fit
-- its parameter. All arguments are tested for being known before any type is tested (this validator's choice)
abbrev pub argument_fault : TaskParts → Action → List (List ℕ) → Option Why
argument_fault parts action args =
    if length args == length action.params
    then option_or (option_map UnknownObject (first_unknown parts args)) (option_map WrongType (first_ill_typed parts action args))
    else Some WrongCount

-- the fault of a step, by the action that its first word names
abbrev pub fault_by : TaskParts → Option Action → List (List ℕ) → Option Why
fault_by parts None args = Some UnknownAction
fault_by parts (Some action) args = argument_fault parts action args

-- the first thing that is wrong with a step in every state
abbrev pub fault : TaskParts → StepText → Option Why
fault parts step = fault_by parts (action_named parts step.action) step.args

-- the precondition of an action with these objects for its parameters
abbrev pub conditions_by : List ℕ → Option Action → List Tree
conditions_by objects None = []
conditions_by objects (Some action) = map (with_objects objects []) action.pre

-- what a step without a fault asks of the state: formulas without parameters
abbrev pub precondition : TaskParts → StepText → List Tree
precondition parts step = conditions_by (objects_named parts step.args) (action_named parts step.action)

-- the atoms that effects under `when` and `forall` make true (`true`) or false, if the state before is this one, with these objects for the parameters of
-- the action
abbrev pub changed_by : TaskParts → List ℕ → State → Bool → List EffectTree → List Atom
changed_by parts objects state truth effects = flat_map (λ effect. changes (objects_of parts) state objects truth effect []) effects

-- the atoms that an action with these objects deletes in a state, if there is such an action
abbrev pub deletes_by : TaskParts → List ℕ → State → Option Action → List Atom
deletes_by parts objects state None = []
deletes_by parts objects state (Some action) = map (ground objects) action.del ++ changed_by parts objects state false action.effects

-- the atoms that an action with these objects adds in a state, if there is such an action
abbrev pub adds_by : TaskParts → List ℕ → State → Option Action → List Atom
adds_by parts objects state None = []
adds_by parts objects state (Some action) = map (ground objects) action.add ++ changed_by parts objects state true action.effects

-- the atoms that a step without a fault deletes in a state
abbrev pub deletes : TaskParts → State → StepText → List Atom
deletes parts state step = deletes_by parts (objects_named parts step.args) state (action_named parts step.action)

-- the atoms that a step without a fault adds in a state
abbrev pub adds : TaskParts → State → StepText → List Atom
adds parts state step = adds_by parts (objects_named parts step.args) state (action_named parts step.action)

-- the state after an action with these objects: all that it deletes and adds depends on the state before
abbrev pub after_by : TaskParts → List ℕ → State → Option Action → State
after_by parts objects state None = state
after_by parts objects state (Some action) = after_effects state (deletes_by parts objects state (Some action)) (adds_by parts objects state (Some action))

-- the state after a step without a fault
abbrev pub after : TaskParts → State → StepText → State
after parts state step = after_by parts (objects_named parts step.args) state (action_named parts step.action)

-- the formulas that do not hold, in the order in which they first occur, each once. Formulas are the same if they are written the same way, so a formula
-- and its negation are two (which of them are named, and in which order, is this validator's choice)
abbrev pub missing : TaskParts → State → List Tree → List Tree
missing parts state conditions = first_occurrences tree_eq (filter (λ condition. not (holds parts state [] condition)) conditions)

-- why a step is not applicable when these formulas do not hold
abbrev pub missing_why : List Tree → Option Why
missing_why [] = None
missing_why (condition ∷ conditions) = Some (Missing (condition ∷ conditions))

-- why a step is not applicable in a state, if it is not: its fault, or if it has none, the formulas that do not hold
abbrev pub hindrance : TaskParts → State → StepText → Option Why
hindrance parts state step = option_or (fault parts step) (missing_why (missing parts state (precondition parts step)))
