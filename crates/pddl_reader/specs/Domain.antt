-- The domain that syntax stands for (PDDL 2.1, Fox and Long 2003, sections 2 and 3; the limits are this validator's choice).

use Rattle.std.specs.Prelude.{ℕ, Bool, true, not, List, [], ◌∷◌, ◌++◌, map, Option, Some, None}
use Rattle.std.specs.Map.{keys_of}
use Rattle.std.specs.Option.{option_map}
use Rattle.std.specs.Str.{bytes_eq}
use Rattle.pddl_words.specs.Words.{folded}
use Rattle.strips_task.specs.declared.actions.Action.{Action}
use Rattle.formulas.specs.Tree.{Tree}
use Rattle.strips_task.specs.WellFormed.{most_predicates, most_actions}
use Rattle.strips_task.specs.declared.amounts.Amount.{Amount}
use Rattle.pddl_reader.specs.declared.resolution.actions.ActionTables.{ActionTables}
use Rattle.pddl_reader.specs.declared.resolution.actions.CostedAction.{CostedAction}
use Rattle.pddl_reader.specs.declared.resolution.effects.Effects.{Effects}
use Rattle.pddl_reader.specs.declared.resolution.domain.Head.{Head}
use Rattle.pddl_reader.specs.declared.resolution.types.KnownTypes.{KnownTypes}
use Rattle.pddl_reader.specs.Conditions.{conditions_of}
use Rattle.pddl_reader.specs.Effects.{effects_of}
use Rattle.pddl_reader.specs.Functions.{Vocabulary, vocabulary}
use Rattle.pddl_reader.specs.Objects.{Objects, objects_from}
use Rattle.pddl_reader.specs.TypeOrder.{types_of}
use Rattle.pddl_reader.specs.Declarations.{Predicates, declared}
use Rattle.pddl_syntax.specs.declared.dialect.Dialect.{Dialect}
use Rattle.pddl_syntax.specs.Keywords.{total_cost_word}
use Rattle.pddl_syntax.specs.Optional.{guard, through}
use Rattle.pddl_reader.specs.Scopes.{outermost}
use Rattle.pddl_reader.specs.Variables.{TypedVariables, variables_of, argument_types_of}
use Rattle.pddl_syntax.specs.Syntax.{VariableGroup, PredicateForm, ActionForm, DomainForm}

-- what a domain says: its part of a task, the names of its types, its functions, and the increases of each action
pub record DomainValue : Type 0 where
  pub name : List ℕ
  pub types : List (List ℕ)
  pub parents : List ℕ
  pub objects : List (List ℕ × ℕ)
  pub predicates : List (List ℕ × List (List ℕ))
  pub functions : List (List ℕ × List (List ℕ))
  pub actions : List (List ℕ × Action)
  pub increases : List (List Amount)

-- the names of types as a task has them
abbrev pub type_table : List (List ℕ) → List (List ℕ × Unit {0})
type_table names = map (λ name. (name, tt)) names

-- the table with one more predicate, if the types of its arguments are known
unfoldable pub declared_predicate : Predicates → List ℕ → Option (List (List ℕ)) → Option Predicates
declared_predicate table name None = None
declared_predicate table name (Some argument_types) = declared most_predicates table name argument_types

-- the table with one more predicate
unfoldable pub with_predicate : List (List ℕ) → Predicates → PredicateForm → Option Predicates
with_predicate types table predicate = declared_predicate table (folded predicate.name) (argument_types_of types predicate.variables)

-- the table with more predicates, in text order
unfoldable pub predicates_from : List (List ℕ) → Predicates → List PredicateForm → Option Predicates
predicates_from types table predicates = through (with_predicate types) table predicates

-- whether a function of this name may have these variables: `total-cost` has none
unfoldable pub may_have : List ℕ → List VariableGroup → Bool
may_have name [] = true
may_have name (group ∷ groups) = not (bytes_eq name total_cost_word)

-- the table with one more function
unfoldable pub with_function : List (List ℕ) → Predicates → PredicateForm → Option Predicates
with_function types table function = guard (may_have (folded function.name) function.variables) (with_predicate types table function)

-- the table with more functions, in text order
unfoldable pub functions_from : List (List ℕ) → Predicates → List PredicateForm → Option Predicates
functions_from types table functions = through (with_function types) table functions

-- an action with parameters of these types
abbrev pub action_doing : List (List ℕ) → List Tree → Effects → CostedAction
action_doing params pre effects = record {
  action = record { params = params; pre = pre; add = effects.add; del = effects.del; effects = effects.inner };
  increases = effects.increases;
}

-- an action with its precondition and its effects, if there are both
unfoldable pub action_with : List (List ℕ) → Option (List Tree) → Option Effects → Option CostedAction
action_with params None effects = None
action_with params (Some pre) None = None
action_with params (Some pre) (Some effects) = Some (action_doing params pre effects)

-- the action with these parameters, if they are declared correctly
unfoldable pub action_by : List (List ℕ) → Vocabulary → ActionForm → Option TypedVariables → Option CostedAction
action_by types vocabulary action None = None
action_by types vocabulary action (Some parameters) =
    action_with parameters.types (conditions_of types vocabulary.atoms (outermost parameters) action.precondition)
    (effects_of types vocabulary (outermost parameters) action.effect)

-- the action that syntax stands for, with its increases
unfoldable pub action_meant : List (List ℕ) → Vocabulary → ActionForm → Option CostedAction
action_meant types vocabulary action = action_by types vocabulary action (variables_of types action.parameters)

-- the declared actions
abbrev pub Actions : Type 0
Actions = List (List ℕ × Action)

-- empty tables
abbrev pub no_actions : ActionTables
no_actions = record { actions = []; increases = [] }

-- these actions, and the increases of one more action after those of the others
abbrev pub tables_with : ActionTables → CostedAction → Actions → ActionTables
tables_with tables meant actions = record { actions = actions; increases = tables.increases ++ meant.increases ∷ [] }

-- the tables with one more action, if there is one
unfoldable pub declared_action : ActionTables → List ℕ → Option CostedAction → Option ActionTables
declared_action tables name None = None
declared_action tables name (Some meant) = option_map (tables_with tables meant) (declared most_actions tables.actions name meant.action)

-- the tables with one more action
unfoldable pub with_action_of : List (List ℕ) → Vocabulary → ActionTables → ActionForm → Option ActionTables
with_action_of types vocabulary tables action = declared_action tables (folded action.name) (action_meant types vocabulary action)

-- the tables with more actions, in text order
unfoldable pub actions_from : List (List ℕ) → Vocabulary → ActionTables → List ActionForm → Option ActionTables
actions_from types vocabulary tables actions = through (with_action_of types vocabulary) tables actions

-- what a domain declares before its predicates
abbrev pub head : List ℕ → KnownTypes → Objects → Head
head name types objects = record { name = folded name; types = types.names; parents = types.parents; objects = objects }

-- the types of a domain, and its constants
unfoldable pub head_typed : DomainForm → Option KnownTypes → Option Head
head_typed domain None = None
head_typed domain (Some types) = option_map (head domain.name types) (objects_from (keys_of types.names) [] domain.constants)

-- the name, types and constants of a domain, if they are declared correctly
unfoldable pub head_of : Dialect → DomainForm → Option Head
head_of dialect domain = head_typed domain (types_of dialect domain.types)

-- a domain of these parts
abbrev pub domain_value : Head → Predicates → Predicates → ActionTables → DomainValue
domain_value head predicates functions tables = record {
  name = head.name;
  types = keys_of head.types;
  parents = head.parents;
  objects = head.objects;
  predicates = predicates;
  functions = functions;
  actions = tables.actions;
  increases = tables.increases;
}

-- what the actions of a domain may name
abbrev pub vocabulary_by : Head → Predicates → Predicates → Vocabulary
vocabulary_by head predicates functions = vocabulary head.parents head.objects predicates functions

-- the domain with these predicates and functions
unfoldable pub domain_with : DomainForm → Head → Option Predicates → Option Predicates → Option DomainValue
domain_with domain head None functions = None
domain_with domain head (Some predicates) None = None
domain_with domain head (Some predicates) (Some functions) =
    option_map (domain_value head predicates functions)
    (actions_from (keys_of head.types) (vocabulary_by head predicates functions) no_actions domain.actions)

-- the domain with these types and constants, if they are declared correctly
unfoldable pub domain_headed : DomainForm → Option Head → Option DomainValue
domain_headed domain None = None
domain_headed domain (Some head) =
    domain_with domain head (predicates_from (keys_of head.types) [] domain.predicates) (functions_from (keys_of head.types) [] domain.functions)

-- the domain that syntax stands for: types, constants, predicates, functions and actions are declared in turn
unfoldable pub domain_of : Dialect → DomainForm → Option DomainValue
domain_of dialect domain = domain_headed domain (head_of dialect domain)
