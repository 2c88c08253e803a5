-- What lists of declarations declare, stated for the whole list: when they are accepted, and the table that they give.

use Rattle.std.specs.Prelude.{◌≡◌, ◌≤◌, ◌↔◌, IsTrue, ℕ, List, [], map, length, Option, Some}
use Rattle.std.specs.Map.{keys_of}
use Rattle.std.specs.Option.{option_map}
use Rattle.pddl_words.specs.Words.{folded}
use Rattle.strips_task.specs.Names.{are_distinct}
use Rattle.strips_task.specs.WellFormed.{most_predicates, most_actions}
use Rattle.pddl_syntax.specs.Optional.{guard}
use Rattle.pddl_syntax.specs.Syntax.{PredicateForm, ActionForm}
use Rattle.pddl_reader.specs.Declarations.{Predicates}
use Rattle.pddl_reader.specs.Domain.{may_have, predicates_from, functions_from, action_meant, no_actions, actions_from}
use Rattle.pddl_reader.specs.Functions.{Vocabulary}
use Rattle.pddl_reader.specs.Variables.{argument_types_of}
use Rattle.reading_laws.specs.ReadTables.{ActionTables, CostedAction}

-- the table is what the declarations declare: an entry for each, in text order, with no name twice and no more entries than the limit
pub record AreDeclared {A V : Type 0} (entry : A → Option (List ℕ × V)) (most : ℕ) (declarations : List A) (table : List (List ℕ × V)) : Type 0 where
  -- each declaration has an entry, and the table has these entries
  pub entries : map entry declarations ≡ map Some table
  -- no name occurs twice
  pub distinct : IsTrue (are_distinct (keys_of table))
  -- and there are no more than the limit
  pub few : length table ≤ most

-- a predicate's name in lower case and the types of its variables, if there are such variables
unfoldable pub predicate_entry : List (List ℕ) → PredicateForm → Option (List ℕ × List (List ℕ))
predicate_entry types predicate = option_map (λ argument_types. (folded predicate.name, argument_types)) (argument_types_of types predicate.variables)

-- the same for a function; `total-cost` has no variables
unfoldable pub function_entry : List (List ℕ) → PredicateForm → Option (List ℕ × List (List ℕ))
function_entry types function = guard (may_have (folded function.name) function.variables) (predicate_entry types function)

-- an action's name in lower case and what it stands for, if it stands for an action
unfoldable pub action_entry : List (List ℕ) → Vocabulary → ActionForm → Option (List ℕ × CostedAction)
action_entry types vocabulary action = option_map (λ meant. (folded action.name, meant)) (action_meant types vocabulary action)

-- actions without their increases, and beside them the increases
unfoldable pub action_tables : List (List ℕ × CostedAction) → ActionTables
action_tables entries = record { actions = map (λ e. (e.0, e.1.action)) entries; increases = map (λ e. e.1.increases) entries }

-- predicates are accepted, and give this table, exactly if it is what they declare
abbrev pub ArePredicatesDeclared : Type 0
ArePredicatesDeclared = (types : List (List ℕ)) (predicates : List PredicateForm) (table : Predicates) →
    (predicates_from types [] predicates ≡ Some table) ↔ AreDeclared (predicate_entry types) most_predicates predicates table

-- functions are accepted, and give this table, exactly if it is what they declare
abbrev pub AreFunctionsDeclared : Type 0
AreFunctionsDeclared = (types : List (List ℕ)) (functions : List PredicateForm) (table : Predicates) →
    (functions_from types [] functions ≡ Some table) ↔ AreDeclared (function_entry types) most_predicates functions table

-- actions are accepted, and give these tables, exactly if the tables are those of what the actions declare
abbrev pub AreActionsDeclared : Type 0
AreActionsDeclared = (types : List (List ℕ)) (vocabulary : Vocabulary) (actions : List ActionForm) (tables : ActionTables) →
    (actions_from types vocabulary no_actions actions ≡ Some tables)
    ↔ ((entries : List (List ℕ × CostedAction)) × (tables ≡ action_tables entries) × AreDeclared (action_entry types vocabulary) most_actions actions entries)
