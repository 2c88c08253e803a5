-- What follows from the definitions of formulas.

use Rattle.std.specs.Prelude.{◌≡◌, ◌+◌, ◌↔◌, ℕ, Bool, true, false, List, [], ◌∷◌, ◌++◌, length}
use Rattle.std.specs.List.{list_all, list_any}
use Rattle.formulas.specs.declared.atoms.Atom.{Atom}
use Rattle.formulas.specs.declared.variables.VariableGroup.{VariableGroup}
use Rattle.formulas.specs.Equality.{tree_eq}
use Rattle.formulas.specs.Grounding.{with_objects}
use Rattle.formulas.specs.Meaning.{holds}
use Rattle.formulas.specs.Opposite.{opposite}
use Rattle.formulas.specs.Tree.{Tree, negation, conjunction, disjunction, implication, exists, for_all, parts_of}
use Rattle.formulas.specs.Variables.{variable_types}
use Rattle.formulas.specs.Within.{IsWithin}

-- the test for equality passes a formula and itself, and nothing else
abbrev pub EqualMeansSame : Type 0
EqualMeansSame = (tree other : Tree) → (tree_eq tree other ≡ true) ↔ (tree ≡ other)

-- a formula with objects put in names no parameter, and only those variables that did not become objects
abbrev pub GroundedNamesNoParameter : Type 0
GroundedNamesNoParameter =
    (objects bound : List ℕ) (left : ℕ) (tree : Tree) → IsWithin (length objects) (length bound + left) tree → IsWithin 0 left (with_objects objects bound tree)

-- a law of all states, whatever objects there are and whatever the arguments of the action
abbrev pub InEveryState : ((List ℕ → List ℕ) → (Atom → Bool) → List ℕ → Type 0) → Type 0
InEveryState Law = (objects_of : List ℕ → List ℕ) (state : Atom → Bool) (arguments : List ℕ) → Law objects_of state arguments

module _ (objects_of : List ℕ → List ℕ) (state : Atom → Bool) (arguments : List ℕ) where
  -- whether a formula holds in this state, with these arguments
  abbrev pub holds_here : Tree → List ℕ → Bool
  holds_here = holds objects_of state arguments

  -- a formula with objects put in holds if and only if the formula does with these objects as arguments and as the first that are bound
  abbrev pub GroundedMeansTheSame : Type 0
  GroundedMeansTheSame = (bound inner : List ℕ) (tree : Tree) → holds objects_of state [] (with_objects arguments bound tree) inner ≡ holds_here tree (bound ++ inner)

  -- `and` holds if and only if each of its parts does
  abbrev pub AndMeansEach : Type 0
  AndMeansEach = (bound : List ℕ) (trees : List Tree) → holds_here (conjunction (parts_of trees)) bound ≡ list_all (λ tree. holds_here tree bound) trees

  -- `or` holds if and only if one of its parts does
  abbrev pub OrMeansOne : Type 0
  OrMeansOne = (bound : List ℕ) (trees : List Tree) → holds_here (disjunction (parts_of trees)) bound ≡ list_any (λ tree. holds_here tree bound) trees

  -- `(imply a b)` holds if and only if `(or (not a) b)` does
  abbrev pub ImplyMeansOr : Type 0
  ImplyMeansOr =
      (bound : List ℕ) (premise conclusion : Tree) → holds_here (implication premise conclusion) bound ≡ holds_here (disjunction (parts_of (negation premise ∷ conclusion ∷ []))) bound

  -- `not` before a formula means the same as `not` moved into it
  abbrev pub NotMovesInwards : Type 0
  NotMovesInwards = (bound : List ℕ) (tree : Tree) → holds_here (negation tree) bound ≡ holds_here (opposite tree) bound

  -- a quantifier without variables means the same as its body
  abbrev pub NoVariablesMeanTheBody : Type 0
  NoVariablesMeanTheBody =
      (bound : List ℕ) (body : Tree) → (holds_here (exists [] body) bound ≡ holds_here body bound) × (holds_here (for_all [] body) bound ≡ holds_here body bound)

  -- if there is no object of the types of one of the variables, `exists` does not hold and `forall` does
  abbrev pub NoObjectsDecide : Type 0
  NoObjectsDecide =
      (bound : List ℕ) (groups : List VariableGroup) (body : Tree) (before after : List (List ℕ)) (types : List ℕ) → variable_types groups ≡ before ++ types ∷ after → objects_of types ≡ []
      → (holds_here (exists groups body) bound ≡ false) × (holds_here (for_all groups body) bound ≡ true)
