-- The variables that terms may name: the parameters of an action, and those that quantifiers bind.

use Rattle.std.specs.Prelude.{ℕ, ◌+◌, nat_lt, List, [], ◌∷◌, ◌++◌, drop, Option, Some, None, if◌then◌else◌}
use Rattle.std.specs.Option.{option_map}
use Rattle.pddl_words.specs.Kinds.{is_same_word}
use Rattle.pddl_words.specs.Words.{folded, is_name}
use Rattle.formulas.specs.declared.terms.Term.{Term}
use Rattle.formulas.specs.declared.terms.Term.TheVariants.{Param, Bound}
use Rattle.formulas.specs.declared.variables.VariableGroup as kept
use Rattle.pddl_syntax.specs.Optional.{guard, followed_by, through}
use Rattle.pddl_syntax.specs.Syntax.{VariableGroup}
use Rattle.pddl_reader.specs.Variables.{TypedVariables, alternatives_of, group_named, no_variables, variable_number}

-- the parameters of an action, and the variables that the quantifiers around a term bind, the outermost first
pub record Scope : Type 0 where
  pub parameters : TypedVariables
  pub bound : TypedVariables

-- the scope outside all quantifiers
abbrev pub outermost : TypedVariables → Scope
outermost parameters = record { parameters = parameters; bound = no_variables }

-- the scope inside a quantifier that binds these variables
unfoldable pub scope_within : Scope → TypedVariables → Scope
scope_within scope own = record scope { bound = record { names = scope.bound.names ++ own.names; types = scope.bound.types ++ own.types } }

-- the number of the last of these variables that has a name, or what was found before them. The first of them has the number `next`
unfoldable pub last_number : List ℕ → ℕ → Option ℕ → List (List ℕ) → Option ℕ
last_number word next found [] = found
last_number word next found (name ∷ names) = last_number word (next + 1) (if is_same_word word name then Some next else found) names

-- the bound variable with a level, which is below a limit. No text has more: its lists nest at most 64 deep, with at most 32 variables each
unfoldable pub bound_term : ℕ → Option Term
bound_term level = guard (nat_lt level 65536) (Some (Bound level))

-- a bound variable, or else a parameter
unfoldable pub variable_by : Option ℕ → Option ℕ → Option Term
variable_by (Some level) number = bound_term level
variable_by None number = option_map (λ n. Param n) number

-- the variable that a word names: the innermost one that is bound, or else a parameter
unfoldable pub variable_meant : Scope → List ℕ → Option Term
variable_meant scope word = variable_by (last_number word 0 None scope.bound.names) (variable_number scope.parameters.names word)

-- the name of a variable without its question mark, which every variable has by the grammar
unfoldable pub unmarked : List ℕ → Option (List ℕ)
unmarked word = guard (is_name (drop 1 word)) (Some (folded (drop 1 word)))

-- the names of variables without their question marks
unfoldable pub all_unmarked : List (List ℕ) → Option (List (List ℕ))
all_unmarked [] = Some []
all_unmarked (word ∷ words) = followed_by (unmarked word) (all_unmarked words)

-- the variables of a quantifier: as terms name them, and in groups as formulas keep them
pub record BoundVariables : Type 0 where
  pub declared : TypedVariables
  pub groups : List kept.VariableGroup

-- a group of these names and types
abbrev pub kept_group : List ℕ → List (List ℕ) → kept.VariableGroup
kept_group types names = record { names = names; types = types }

-- the group as formulas keep it, if its types are known
unfoldable pub group_kept : Option (List ℕ) → List (List ℕ) → Option kept.VariableGroup
group_kept None variables = None
group_kept (Some types) variables = option_map (kept_group types) (all_unmarked variables)

-- the variables with one more group, if it is declared correctly
unfoldable pub bound_with : BoundVariables → Option TypedVariables → Option kept.VariableGroup → Option BoundVariables
bound_with bound None group = None
bound_with bound (Some declared) None = None
bound_with bound (Some declared) (Some group) = Some (record { declared = declared; groups = bound.groups ++ group ∷ [] })

-- the variables with one more group
unfoldable pub group_bound : List (List ℕ) → BoundVariables → VariableGroup → Option BoundVariables
group_bound types bound group =
    bound_with bound (group_named types bound.declared group) (group_kept (alternatives_of types group.types) group.variables)

-- no variables
abbrev pub none_bound : BoundVariables
none_bound = record { declared = no_variables; groups = [] }

-- the variables that the groups of a quantifier bind
unfoldable pub bound_by : List (List ℕ) → List VariableGroup → Option BoundVariables
bound_by types groups = through (group_bound types) none_bound groups

-- the groups of a quantifier, and what its body stands for in the scope of their variables, if they are declared correctly
unfoldable pub quantified : {A : Type 0} → Scope → Option BoundVariables → (Scope → Option A) → Option (List kept.VariableGroup × A)
quantified scope None body = None
quantified scope (Some own) body = option_map (λ meant. (own.groups, meant)) (body (scope_within scope own.declared))
