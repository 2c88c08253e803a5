-- Quantifiers: the choices of objects for their variables.

use Rattle.std.specs.Prelude.{ℕ, Bool, List}
use Rattle.std.specs.Bool.{beq}
use Rattle.std.specs.List.{list_any}
use Rattle.formulas.specs.Tree.{Tree}
use Rattle.formulas.specs.Meaning as meaning
use Rattle.formulas.specs.Variables.{extensions}
use Rattle.strips_task.specs.declared.tasks.TaskParts.{TaskParts}
use Rattle.strips_judge.specs.State.{State, objects_of}

module _ (parts : TaskParts) (state : State) (arguments : List ℕ) where
  -- whether a formula holds in the state, with these arguments and these objects for the variables bound around it
  abbrev pub holds_bound : List ℕ → Tree → Bool
  holds_bound bound tree = meaning.holds (objects_of parts) state arguments tree bound

  -- whether one of these formulas is true, or is false
  abbrev pub some_is : Bool → List ℕ → List Tree → Bool
  some_is truth bound trees = list_any (λ tree. beq (holds_bound bound tree) truth) trees

  -- whether a formula is true, or is false, for some choice of objects for variables of these types
  abbrev pub some_choice_gives : Bool → Tree → List (List ℕ) → List ℕ → Bool
  some_choice_gives truth body variables bound = list_any (λ extended. beq (holds_bound extended body) truth) (extensions (objects_of parts) variables bound)
