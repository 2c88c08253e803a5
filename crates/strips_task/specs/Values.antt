-- The values of ground functions, which are kept in the form of atoms, and the value that the total cost begins with.

use Rattle.std.specs.Prelude.{ℕ, ◌==◌, List, [], ◌∷◌, ◌++◌, Option, Some, None, unwrap_or, if◌then◌else◌}
use Rattle.std.specs.Map.{lookup}
use Rattle.formulas.specs.declared.atoms.Atom.{Atom}
use Rattle.formulas.specs.Atom.{atom_eq}
use Rattle.strips_task.specs.declared.costs.Costs.{Costs}
use Rattle.strips_task.specs.declared.values.Given.{Given}
use Rattle.strips_task.specs.declared.values.Given.TheVariants.{First, Again, Another}

-- the value of a ground function, if it has one
abbrev pub value_of : List (Atom × ℕ) → Atom → Option ℕ
value_of values function = lookup (atom_eq function) values

-- what is reported when a function is given a value, by the value that it had before, if any
abbrev pub given_over : Option ℕ → ℕ → Given
given_over None value = First
given_over (Some earlier) value = if earlier == value then Again else Another

-- the values after a function is given one, by the value that it had before, if any: an earlier value stays
abbrev pub with_value_over : Option ℕ → List (Atom × ℕ) → Atom → ℕ → List (Atom × ℕ)
with_value_over None values function value = values ++ (function, value) ∷ []
with_value_over (Some earlier) values function value = values

-- the values after a function is given one: the first value of each function stays
abbrev pub with_value : List (Atom × ℕ) → Atom → ℕ → List (Atom × ℕ)
with_value values function value = with_value_over (value_of values function) values function value

-- the value that the total cost begins with: 0 if the problem gives none
abbrev pub initial_cost : Costs → ℕ
initial_cost costs = unwrap_or (value_of costs.values (record { pred = costs.total_cost; args = [] })) 0
