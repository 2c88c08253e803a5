-- Static predicates: those whose atoms no action changes.

use Rattle.std.specs.Prelude.{◌≡◌, ℕ, nat_eq, Bool, true, not, ◌&&◌, List, IsTrue, Some, false, slice_get}
use Rattle.std.specs.List.{list_all}
use Rattle.std.specs.Map.{values_of}
use Rattle.formulas.specs.declared.atoms.Atom.{Atom}
use Rattle.formulas.specs.declared.terms.Pattern.{Pattern}
use Rattle.formulas.specs.EffectTree.{EffectTree, change, joint, conditional, universal, EffectParts, no_effects, effect_part}
use Rattle.strips_task.specs.declared.actions.Action.{Action}
use Rattle.strips_task.specs.declared.tasks.TaskParts.{TaskParts}
use Rattle.strips_judge.specs.State.{State, is_in}

-- an atom that is made true or false has another predicate than this
abbrev pub is_of_another : ℕ → Pattern → Bool
is_of_another pred pattern = not (nat_eq pred pattern.pred)

module _ (pred : ℕ) where
  abbrev mutual
    -- no atom that an effect may change has this predicate
    pub spares : EffectTree → Bool
    spares (change positive pattern) = is_of_another pred pattern
    spares (joint parts) = all_spare parts
    spares (conditional condition effect) = spares effect
    spares (universal groups effect) = spares effect

    pub all_spare : EffectParts → Bool
    all_spare no_effects = true
    all_spare (effect_part effect parts) = spares effect && all_spare parts

-- no atom that an action may change has this predicate
abbrev pub action_spares : ℕ → Action → Bool
action_spares pred action = list_all (is_of_another pred) action.del && (list_all (is_of_another pred) action.add && list_all (spares pred) action.effects)

-- no action of a task changes atoms of this predicate
abbrev pub is_static : TaskParts → ℕ → Bool
is_static parts pred = list_all (action_spares pred) (values_of parts.actions)

-- the atoms of static predicates are true in a state if they are at the start
abbrev pub KeepsStatics : TaskParts → State → Type 0
KeepsStatics parts state = (atom : Atom) → IsTrue (is_static parts atom.pred) → state atom ≡ is_in parts.init atom

-- a predicate has a mark, and it says that no action changes it
abbrev pub IsUnmarked : List Bool → ℕ → Type 0
IsUnmarked marks pred = slice_get marks pred ≡ Some false
