-- The types that variables may have, and lists of variables.

use Rattle.std.specs.Prelude.{ℕ, ◌+◌, ◌&&◌, nat_le, nat_lt, is_none, List, [], ◌∷◌, ◌++◌, length, map, Option, Some, None}
use Rattle.std.specs.List.{position_from}
use Rattle.std.specs.Option.{option_map}
use Rattle.pddl_words.specs.Kinds.{is_same_word}
use Rattle.strips_task.specs.WellFormed.{most_variables, most_alternatives}
use Rattle.pddl_reader.specs.Objects.{type_number}
use Rattle.pddl_syntax.specs.Optional.{guard, through}
use Rattle.pddl_syntax.specs.Syntax.{VariableGroup}

-- the alternatives with one more, if it is a type
unfoldable pub alternative_behind : List ℕ → Option ℕ → Option (List ℕ)
alternative_behind numbers None = None
alternative_behind numbers (Some number) = Some (numbers ++ number ∷ [])

-- a word of a choice names a type; there are no more alternatives than the limit
unfoldable pub alternative_named : List (List ℕ) → List ℕ → List ℕ → Option (List ℕ)
alternative_named types numbers word = guard (nat_lt (length numbers) most_alternatives) (alternative_behind numbers (type_number types word))

-- the numbers of the types of a choice, in text order
unfoldable pub alternatives_of : List (List ℕ) → List (List ℕ) → Option (List ℕ)
alternatives_of types words = through (alternative_named types) [] words

-- the types of arguments, followed by these types for each variable
unfoldable pub argument_types_with : List (List ℕ) → List (List ℕ) → List ℕ → List (List ℕ)
argument_types_with argument_types variables types = argument_types ++ map (λ _. types) variables

-- the types of arguments with those of a group; there are no more variables than the limit
unfoldable pub with_group_types : List (List ℕ) → List (List ℕ) → VariableGroup → Option (List (List ℕ))
with_group_types types argument_types group =
    guard (nat_le (length argument_types + length group.variables) most_variables)
    (option_map (argument_types_with argument_types group.variables) (alternatives_of types group.types))

-- for each variable the types that it may have
unfoldable pub argument_types_of : List (List ℕ) → List VariableGroup → Option (List (List ℕ))
argument_types_of types groups = through (with_group_types types) [] groups

-- the variables of a list: their names, and for each the types that it may have
pub record TypedVariables : Type 0 where
  pub names : List (List ℕ)
  pub types : List (List ℕ)

-- the number of a variable by its name
unfoldable pub variable_number : List (List ℕ) → List ℕ → Option ℕ
variable_number names word = position_from (is_same_word word) 0 names

-- a variable has a name of its own in its list; there are no more variables than the limit
unfoldable pub variable_named : List (List ℕ) → List ℕ → Option (List (List ℕ))
variable_named names word = guard (nat_lt (length names) most_variables && is_none (variable_number names word)) (Some (names ++ word ∷ []))

-- the variables with those of a group, if these and their types are declared correctly
unfoldable pub variables_with : TypedVariables → List (List ℕ) → Option (List (List ℕ)) → Option (List ℕ) → Option TypedVariables
variables_with declared variables None types = None
variables_with declared variables (Some names) None = None
variables_with declared variables (Some names) (Some types) = Some (record { names = names; types = argument_types_with declared.types variables types })

-- the variables with those of a group
unfoldable pub group_named : List (List ℕ) → TypedVariables → VariableGroup → Option TypedVariables
group_named types declared group =
    variables_with declared group.variables (through variable_named declared.names group.variables) (alternatives_of types group.types)

-- no variables
abbrev pub no_variables : TypedVariables
no_variables = record { names = []; types = [] }

-- the variables that groups declare: the parameters of an action
unfoldable pub variables_of : List (List ℕ) → List VariableGroup → Option TypedVariables
variables_of types groups = through (group_named types) no_variables groups
