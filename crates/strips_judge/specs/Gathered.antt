-- The changes of conditional effects, gathered by the numbers of their atoms before any is made.

use Rattle.std.specs.Prelude.{ℕ, Bool, true, false, List, [], ◌∷◌, ◌++◌, filter}
use Rattle.formulas.specs.declared.atoms.Atom.{Atom}
use Rattle.formulas.specs.Changes.{changes}
use Rattle.formulas.specs.EffectTree.{EffectTree}
use Rattle.formulas.specs.Variables.{extensions}
use Rattle.std.specs.List.{flat_map}
use Rattle.strips_task.specs.declared.tasks.TaskParts.{TaskParts}
use Rattle.strips_judge.specs.declared.scratch.Changes.{Changes}
use Rattle.strips_judge.specs.NumberedState.{AreNumbers}
use Rattle.strips_judge.specs.State.{State, objects_of}

-- the numbers of the atoms that are deleted and of those that are added
pub record Gathered : Type 0 where
  pub deleted : List ℕ
  pub added : List ℕ

-- the numbers that are kept
abbrev pub kept : Changes → Gathered
kept changes = record { deleted = changes.deleted.items; added = changes.added.items }

-- the atoms that effects change: those that they make true (`true`), and those that they make false
abbrev pub Found : Type 0
Found = Bool → List Atom

-- nothing is changed
abbrev pub nothing : Found
nothing truth = []

-- one atom becomes true
abbrev pub only_added : Atom → Found
only_added atom true = atom ∷ []
only_added atom false = []

-- one atom becomes false
abbrev pub only_deleted : Atom → Found
only_deleted atom true = []
only_deleted atom false = atom ∷ []

-- one atom becomes true, or false
abbrev pub changed_alone : Bool → Atom → Found
changed_alone true atom = only_added atom
changed_alone false atom = only_deleted atom

-- what is found, and then more
abbrev pub and_then : Found → Found → Found
and_then found more truth = found truth ++ more truth

-- the numbers of what is found: of the atoms that become false only those that are true in the state are kept
pub record AreGathered (atoms : List Atom) (state : State) (found : Found) (numbers : Gathered) : Type 0 where
  pub deleted : AreNumbers atoms (filter state (found false)) numbers.deleted
  pub added : AreNumbers atoms (found true) numbers.added

-- more is gathered, while atoms may have got numbers
abbrev pub GathersMore : State → List Atom → List Atom → Gathered → Gathered → Found → Type 0
GathersMore state old new before after more = (found : Found) → AreGathered old state found before → AreGathered new state (and_then found more) after

module _ (parts : TaskParts) (state : State) (arguments : List ℕ) where
  -- what an effect changes, with these objects for the variables bound around it
  abbrev pub effect_found : List ℕ → EffectTree → Found
  effect_found bound effect truth = changes (objects_of parts) state arguments truth effect bound

  -- what several effects change
  abbrev pub effects_found : List ℕ → List EffectTree → Found
  effects_found bound effects truth = flat_map (λ effect. effect_found bound effect truth) effects

  -- what an effect changes for all choices of objects for variables of these types
  abbrev pub choices_found : EffectTree → List (List ℕ) → List ℕ → Found
  choices_found effect variables bound truth = flat_map (λ extended. effect_found extended effect truth) (extensions (objects_of parts) variables bound)
