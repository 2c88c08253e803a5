-- Lists of typed names and variables as they are written: groups, each with a dash and a type after it, and then possibly a last group
-- without a type.

use Rattle.std.specs.Prelude.{◌≡◌, ◌≢◌, ◌↔◌, ℕ, List, [], ◌∷◌, ◌++◌, map, Some, All, IsTrue}
use Rattle.std.specs.List.{AllPass}
use Rattle.pddl_words.specs.Words.{is_name}
use Rattle.pddl_syntax.specs.Heads.{is_either, is_variable}
use Rattle.pddl_syntax.specs.Keywords.{dash_word}
use Rattle.pddl_syntax.specs.Trees.{Trees, none, word, list}
use Rattle.pddl_syntax.specs.Syntax.{NameGroup, VariableGroup, last_names, last_variables, typed_names, typed_variables}

-- the words, and after them the trees
unfoldable pub words_before : List (List ℕ) → Trees → Trees
words_before [] others = others
words_before (w ∷ ws) others = word w (words_before ws others)

-- the groups as they are written, each its names, a dash and its type, and then the last names
unfoldable pub groups_written : List NameGroup → List (List ℕ) → Trees
groups_written [] last = words_before last none
groups_written (group ∷ groups) last = words_before group.names (word dash_word (word group.type (groups_written groups last)))

-- a group has at least one name, and its names and its type are names
pub record IsNameGroup (group : NameGroup) : Type 0 where
  pub some : group.names ≢ []
  pub names : AllPass is_name group.names
  pub type : IsTrue (is_name group.type)

-- the trees are written as groups and last names, and give these groups and one of type `object` for the last names, if there are any
pub record IsTypedList (trees : Trees) (groups : List NameGroup) : Type 0 where
  pub typed : List NameGroup
  pub last : List (List ℕ)
  pub written : trees ≡ groups_written typed last
  pub are_groups : All IsNameGroup typed
  pub are_names : AllPass is_name last
  pub given : groups ≡ typed ++ last_names last

-- trees are read as a list of typed names exactly if they are written as one, and the groups are those that are written
abbrev pub AreNamesTyped : Type 0
AreNamesTyped = (trees : Trees) (groups : List NameGroup) → (typed_names [] trees ≡ Some groups) ↔ IsTypedList trees groups

-- the types of variables as they are written: one name, or a choice `(either N+)`, which keeps its first word as it is written
pub data TypesWritten : Type 0 where
  one : List ℕ → TypesWritten
  choice : List ℕ → List (List ℕ) → TypesWritten

-- the types as they are written, and after them the trees
unfoldable pub types_before : TypesWritten → Trees → Trees
types_before (one type) others = word type others
types_before (choice either types) others = list (word either (words_before types none)) others

-- the names of the types
unfoldable pub types_named : TypesWritten → List (List ℕ)
types_named (one type) = type ∷ []
types_named (choice either types) = types

-- one name, or `either` and at least one name
abbrev pub AreTypes : TypesWritten → Type 0
AreTypes (one type) = IsTrue (is_name type)
AreTypes (choice either types) = IsTrue (is_either either) × (types ≢ []) × AllPass is_name types

-- a group of variables as it is written
pub record VariablesWritten : Type 0 where
  pub variables : List (List ℕ)
  pub types : TypesWritten

-- the group that it gives
abbrev pub group_given : VariablesWritten → VariableGroup
group_given group = record { variables = group.variables; types = types_named group.types }

-- the groups as they are written, each its variables, a dash and its types, and then the last variables
unfoldable pub variables_written : List VariablesWritten → List (List ℕ) → Trees
variables_written [] last = words_before last none
variables_written (group ∷ groups) last = words_before group.variables (word dash_word (types_before group.types (variables_written groups last)))

-- a group has at least one variable, and types
pub record IsVariableGroup (group : VariablesWritten) : Type 0 where
  pub some : group.variables ≢ []
  pub variables : AllPass is_variable group.variables
  pub types : AreTypes group.types

-- the trees are written as groups and last variables, and give these groups and one of type `object` for the last variables, if there are any
pub record IsVariableList (trees : Trees) (groups : List VariableGroup) : Type 0 where
  pub typed : List VariablesWritten
  pub last : List (List ℕ)
  pub written : trees ≡ variables_written typed last
  pub are_groups : All IsVariableGroup typed
  pub are_variables : AllPass is_variable last
  pub given : groups ≡ map group_given typed ++ last_variables last

-- trees are read as a list of typed variables exactly if they are written as one, and the groups are those that are written
abbrev pub AreVariablesTyped : Type 0
AreVariablesTyped = (trees : Trees) (groups : List VariableGroup) → (typed_variables [] trees ≡ Some groups) ↔ IsVariableList trees groups
