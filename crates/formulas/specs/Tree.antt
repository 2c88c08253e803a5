-- Formulas as trees (PDDL 2.1, Fox and Long 2003, section 2).

use Rattle.std.specs.Prelude.{ℕ, ◌+◌, max, Bool, List, [], ◌∷◌}
use Rattle.formulas.specs.declared.terms.Term.{Term}
use Rattle.formulas.specs.declared.terms.Pattern.{Pattern}
use Rattle.formulas.specs.declared.variables.VariableGroup.{VariableGroup}

-- formulas, and lists of them
mutual
  -- an atom or an equality with its sign, or other formulas under `not`, `and`, `or`, `imply`, `exists` or `forall`
  pub data Tree : Type 0 where
    atom : Bool → Pattern → Tree
    equality : Bool → Term → Term → Tree
    negation : Tree → Tree
    conjunction : Parts → Tree
    disjunction : Parts → Tree
    implication : Tree → Tree → Tree
    exists : List VariableGroup → Tree → Tree
    for_all : List VariableGroup → Tree → Tree

  -- a list of formulas
  pub data Parts : Type 0 where
    no_parts : Parts
    part : Tree → Parts → Parts

-- a list of formulas, as the parts of one
abbrev pub parts_of : List Tree → Parts
parts_of [] = no_parts
parts_of (tree ∷ trees) = part tree (parts_of trees)

-- how many formulas are around the one that is deepest inside
abbrev mutual
  pub height : Tree → ℕ
  height (atom positive pattern) = 0
  height (equality positive left right) = 0
  height (negation tree) = height tree + 1
  height (conjunction parts) = most_height parts + 1
  height (disjunction parts) = most_height parts + 1
  height (implication premise conclusion) = max (height premise) (height conclusion) + 1
  height (exists groups body) = height body + 1
  height (for_all groups body) = height body + 1

  pub most_height : Parts → ℕ
  most_height no_parts = 0
  most_height (part tree parts) = max (height tree) (most_height parts)
