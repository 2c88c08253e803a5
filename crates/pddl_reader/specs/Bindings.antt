-- Quantifiers whose variables a scope binds.

use Rattle.std.specs.Prelude.{ℕ, List, take, Option, Some, None}
use Rattle.formulas.specs.declared.variables.VariableGroup.{VariableGroup}
use Rattle.pddl_reader.specs.Scopes.{Scope, BoundVariables, scope_within}

-- the groups of a quantifier, and the scope of its body, if they are declared correctly
unfoldable pub entered : Scope → Option BoundVariables → Option (List VariableGroup × Scope)
entered scope None = None
entered scope (Some own) = Some (own.groups, scope_within scope own.declared)

-- the scope with only the first variables that are bound
abbrev pub outside : ℕ → Scope → Scope
outside depth scope = record scope { bound = record { names = take depth scope.bound.names; types = take depth scope.bound.types } }
