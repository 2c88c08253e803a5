-- The variables of quantifiers, and the objects that they can stand for.

use Rattle.std.specs.Prelude.{ℕ, List, [], ◌∷◌, ◌++◌, map}
use Rattle.std.specs.List.{flat_map}
use Rattle.formulas.specs.declared.variables.VariableGroup.{VariableGroup}

-- the types of each variable, in order: those of its group
abbrev pub variable_types : List VariableGroup → List (List ℕ)
variable_types groups = flat_map (λ group. map (λ name. group.types) group.names) groups

-- every choice of objects for variables of these types, each as the objects that are bound already and then one object for each variable. If there are no
-- variables, there is one choice
abbrev pub extensions : (List ℕ → List ℕ) → List (List ℕ) → List ℕ → List (List ℕ)
extensions objects_of [] bound = bound ∷ []
extensions objects_of (types ∷ others) bound = flat_map (λ object. extensions objects_of others (bound ++ object ∷ [])) (objects_of types)
