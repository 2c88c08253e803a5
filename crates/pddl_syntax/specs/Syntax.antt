-- The grammar of domains and problems: which syntax a tree has (PDDL 2.1, Fox and Long 2003, appendix A; this validator's part
-- of it is described in docs).

use Rattle.std.specs.Prelude.{ℕ, List, [], ◌∷◌, ◌++◌, Bool, true, false, ◌&&◌, ◌||◌, Option, Some, None, is_some, not, unwrap_or, if◌then◌else◌}
use Rattle.std.specs.Option.{option_map, option_and_then}
use Rattle.pddl_words.specs.Words.{is_name}
use Rattle.pddl_words.specs.Kinds.{is_same_word}
use Rattle.pddl_words.specs.DecimalReading.{billionths_of}
use Rattle.pddl_syntax.specs.declared.heads.FormulaHead.{FormulaHead}
use Rattle.pddl_syntax.specs.declared.heads.FormulaHead.TheVariants as formula
use Rattle.pddl_syntax.specs.declared.heads.DomainSection.{DomainSection}
use Rattle.pddl_syntax.specs.declared.heads.DomainSection.TheVariants as section
use Rattle.pddl_syntax.specs.declared.heads.ActionPart.{ActionPart}
use Rattle.pddl_syntax.specs.declared.heads.ActionPart.TheVariants as part
use Rattle.pddl_syntax.specs.declared.heads.ProblemSection.{ProblemSection}
use Rattle.pddl_syntax.specs.declared.heads.ProblemSection.TheVariants as problem
use Rattle.pddl_syntax.specs.Keywords.{define_word, domain_word, problem_word, either_word, object_word, total_cost_word, number_word}
use Rattle.pddl_syntax.specs.declared.dialect.Dialect.{Dialect}
use Rattle.pddl_syntax.specs.declared.heads.Context.TheVariants as context
use Rattle.pddl_syntax.specs.declared.heads.Scope.{Scope}
use Rattle.pddl_syntax.specs.declared.heads.ListHead.{ListHead}
use Rattle.pddl_syntax.specs.declared.heads.ListHead.TheVariants as head
use Rattle.pddl_syntax.specs.Heads.{is_dash, is_keyword, is_term, is_variable, scope_at, has_connectives, formula_head, list_head, is_atom_head, is_literal_head, domain_section, action_part, problem_section}
use Rattle.pddl_syntax.specs.Optional.{guard, followed_by, both}
use Rattle.pddl_syntax.specs.Trees.{Trees, none, word, list, begins_with_list}

-- an atom as written: the words of its predicate and of its terms. A function with its terms has the same form
pub record AtomForm : Type 0 where
  pub predicate : List ℕ
  pub terms : List (List ℕ)

-- the two terms that are compared
pub record EqualityForm : Type 0 where
  pub left : List ℕ
  pub right : List ℕ

-- what a number is raised by: a number of billionths, or the value of a function
pub data AmountForm : Type 0 where
  number_amount : ℕ → AmountForm
  function_amount : AtomForm → AmountForm

-- a function and its value, in billionths
pub record ValueForm : Type 0 where
  pub function : AtomForm
  pub value : ℕ

-- an initial atom, and whether it holds; or the value of a function
pub data InitialForm : Type 0 where
  initial_atom : Bool → AtomForm → InitialForm
  initial_value : ValueForm → InitialForm

-- a group of a list of typed variables: its variables, and the names of the types that they may have
pub record VariableGroup : Type 0 where
  pub variables : List (List ℕ)
  pub types : List (List ℕ)

-- formulas, and lists of them
mutual
  -- an atom or an equality with its sign, or other formulas under `not`, `and`, `or`, `imply`, `exists` or `forall`
  pub data FormulaForm : Type 0 where
    atom_formula : Bool → AtomForm → FormulaForm
    equality_formula : Bool → EqualityForm → FormulaForm
    negation : FormulaForm → FormulaForm
    conjunction : FormulaForms → FormulaForm
    disjunction : FormulaForms → FormulaForm
    implication : FormulaForm → FormulaForm → FormulaForm
    exists : List VariableGroup → FormulaForm → FormulaForm
    for_all : List VariableGroup → FormulaForm → FormulaForm

  -- a list of formulas
  pub data FormulaForms : Type 0 where
    no_formulas : FormulaForms
    formula_then : FormulaForm → FormulaForms → FormulaForms

-- a list of formulas, as the parts of one
abbrev pub formulas_of : List FormulaForm → FormulaForms
formulas_of [] = no_formulas
formulas_of (formula ∷ others) = formula_then formula (formulas_of others)

-- effects, and lists of them
mutual
  -- an atom that becomes true or false, an amount by which `total-cost` is raised, or other effects under `and`, `when` or `forall`
  pub data EffectForm : Type 0 where
    atom_effect : Bool → AtomForm → EffectForm
    increase_effect : AmountForm → EffectForm
    joint_effect : EffectForms → EffectForm
    conditional_effect : FormulaForm → EffectForm → EffectForm
    universal_effect : List VariableGroup → EffectForm → EffectForm

  -- a list of effects
  pub data EffectForms : Type 0 where
    no_effects : EffectForms
    effect_then : EffectForm → EffectForms → EffectForms

-- a list of effects, as the parts of one
abbrev pub effects_of : List EffectForm → EffectForms
effects_of [] = no_effects
effects_of (effect ∷ others) = effect_then effect (effects_of others)

-- the declaration of a predicate or a function
pub record PredicateForm : Type 0 where
  pub name : List ℕ
  pub variables : List VariableGroup

-- an action
pub record ActionForm : Type 0 where
  pub name : List ℕ
  pub parameters : List VariableGroup
  pub precondition : FormulaForm
  pub effect : EffectForm

-- a group of a list of typed names: its names, and the name of their type
pub record NameGroup : Type 0 where
  pub names : List (List ℕ)
  pub type : List ℕ

-- a domain
pub record DomainForm : Type 0 where
  pub name : List ℕ
  pub types : List NameGroup
  pub constants : List NameGroup
  pub predicates : List PredicateForm
  pub functions : List PredicateForm
  pub actions : List ActionForm

-- a problem
pub record ProblemForm : Type 0 where
  pub name : List ℕ
  pub domain : List ℕ
  pub objects : List NameGroup
  pub init : List InitialForm
  pub goal : FormulaForm

-- the parts of an action that are given
pub record ActionParts : Type 0 where
  pub parameters : Option (List VariableGroup)
  pub precondition : Option FormulaForm
  pub effect : Option EffectForm

-- the sections of a domain that are given; of the requirements only whether they are given is kept
pub record DomainSections : Type 0 where
  pub requirements : Bool
  pub types : Option (List NameGroup)
  pub constants : Option (List NameGroup)
  pub predicates : Option (List PredicateForm)
  pub functions : Option (List PredicateForm)
  pub actions : List ActionForm

-- the sections of a problem that are given; of the requirements, the metric and the length only whether they are given is kept
pub record ProblemSections : Type 0 where
  pub domain : Option (List ℕ)
  pub requirements : Bool
  pub objects : Option (List NameGroup)
  pub init : Option (List InitialForm)
  pub goal : Option FormulaForm
  pub metric : Bool
  pub length : Bool

-- what the trees are read as, if each of them is a list
unfoldable pub lists_of : {A : Type 0} → (Trees → Option A) → Trees → Option (List A)
lists_of read none = Some []
lists_of read (word w others) = None
lists_of read (list inside others) = followed_by (read inside) (lists_of read others)

-- the value, if no tree is left
unfoldable pub ended : {A : Type 0} → Trees → Option A → Option A
ended none value = value
ended (word w others) value = None
ended (list inside others) value = None

-- nothing, if no tree is left
unfoldable pub end_of : Trees → Option (Unit {0})
end_of trees = ended trees (Some tt)

-- what follows a given word at the front
unfoldable pub behind_word : List ℕ → Trees → Option Trees
behind_word expected none = None
behind_word expected (word w others) = guard (is_same_word w expected) (Some others)
behind_word expected (list inside others) = None

-- what the list at the front holds
unfoldable pub first_list : Trees → Option Trees
first_list none = None
first_list (word w others) = None
first_list (list inside others) = Some inside

-- the name, if there is nothing else
unfoldable pub lone_name : Trees → Option (List ℕ)
lone_name none = None
lone_name (word w others) = guard (is_name w) (ended others (Some w))
lone_name (list inside others) = None

-- K*
unfoldable pub keywords_of : Trees → Option (Unit {0})
keywords_of none = Some tt
keywords_of (word w others) = guard (is_keyword w) (keywords_of others)
keywords_of (list inside others) = None

-- the last group of a list of typed names, if it has a name: its type is `object`
unfoldable pub last_names : List (List ℕ) → List NameGroup
last_names [] = []
last_names (name ∷ names) = record { names = name ∷ names; type = object_word } ∷ []

-- a group, which has at least one name
unfoldable pub name_group : List (List ℕ) → List ℕ → Option NameGroup
name_group [] type = None
name_group (name ∷ names) type = Some (record { names = name ∷ names; type = type })

-- Typed(N): groups `N+ - N`, and then possibly a last group `N+` of type `object`; read after the names of a group that has begun
unfoldable mutual
  pub typed_names : List (List ℕ) → Trees → Option (List NameGroup)
  typed_names names none = Some (last_names names)
  typed_names names (word w others) =
      (if is_dash w then names_typed names others else guard (is_name w) (typed_names (names ++ w ∷ []) others))
  typed_names names (list inside others) = None

  -- the type after the dash, and the groups after it
  pub names_typed : List (List ℕ) → Trees → Option (List NameGroup)
  names_typed names none = None
  names_typed names (word w others) = guard (is_name w) (followed_by (name_group names w) (typed_names [] others))
  names_typed names (list inside others) = None

-- the name at the front
unfoldable pub leading_name : Trees → Option (List ℕ)
leading_name none = None
leading_name (word w others) = guard (is_name w) (Some w)
leading_name (list inside others) = None

-- the words, if each tree is a word that passes the test
unfoldable pub words_of : (List ℕ → Bool) → Trees → Option (List (List ℕ))
words_of test none = Some []
words_of test (word w others) = followed_by (guard (test w) (Some w)) (words_of test others)
words_of test (list inside others) = None

-- the values, if there is at least one
unfoldable pub some_of : Option (List (List ℕ)) → Option (List (List ℕ))
some_of None = None
some_of (Some []) = None
some_of (Some (w ∷ ws)) = Some (w ∷ ws)

-- N+
unfoldable pub names_of : Trees → Option (List (List ℕ))
names_of trees = some_of (words_of is_name trees)

-- `either N+`
unfoldable pub either_in : Trees → Option (List (List ℕ))
either_in trees = option_and_then names_of (behind_word either_word trees)

-- the last group of a list of typed variables, if it has a variable: its type is `object`
unfoldable pub last_variables : List (List ℕ) → List VariableGroup
last_variables [] = []
last_variables (v ∷ vs) = record { variables = v ∷ vs; types = object_word ∷ [] } ∷ []

-- a group, which has at least one variable, if it has types
unfoldable pub variable_group : List (List ℕ) → Option (List (List ℕ)) → Option VariableGroup
variable_group [] types = None
variable_group (v ∷ vs) None = None
variable_group (v ∷ vs) (Some types) = Some (record { variables = v ∷ vs; types = types })

-- Typed(V): groups `V+ - N` or `V+ - (either N+)`, and then possibly a last group `V+` of type `object`; read after the
-- variables of a group that has begun
unfoldable mutual
  pub typed_variables : List (List ℕ) → Trees → Option (List VariableGroup)
  typed_variables variables none = Some (last_variables variables)
  typed_variables variables (word w others) =
      (if is_dash w then variables_typed variables others else guard (is_variable w) (typed_variables (variables ++ w ∷ []) others))
  typed_variables variables (list inside others) = None

  -- the types after the dash, and the groups after them
  pub variables_typed : List (List ℕ) → Trees → Option (List VariableGroup)
  variables_typed variables none = None
  variables_typed variables (word w others) =
      followed_by (variable_group variables (guard (is_name w) (Some (w ∷ [])))) (typed_variables [] others)
  variables_typed variables (list inside others) = followed_by (variable_group variables (either_in inside)) (typed_variables [] others)

-- an atom of a predicate and terms
abbrev pub atom_with : List ℕ → List (List ℕ) → AtomForm
atom_with predicate terms = record { predicate = predicate; terms = terms }

-- an atom: its predicate, and its terms, each of which passes the test
unfoldable pub atom_of : (List ℕ → Bool) → List ℕ → Trees → Option AtomForm
atom_of test predicate terms = option_map (atom_with predicate) (words_of test terms)

-- what a name that is no reserved word heads
abbrev pub name_by : {A : Type 0} → FormulaHead → Option A → Option A
name_by formula.Name value = value
name_by formula.And value = None
name_by formula.Not value = None
name_by formula.Reserved value = None
name_by formula.Other value = None

-- `(N` Term*`)`, where N is no reserved word: a function with its terms
unfoldable pub function_in : (List ℕ → Bool) → Trees → Option AtomForm
function_in test none = None
function_in test (word w terms) = name_by (formula_head w) (atom_of test w terms)
function_in test (list inside others) = None

-- the word at the front, if it passes the test
unfoldable pub leading_word : (List ℕ → Bool) → Trees → Option (List ℕ)
leading_word test none = None
leading_word test (word w others) = guard (test w) (Some w)
leading_word test (list inside others) = None

-- an equality of a left side and a right one
abbrev pub equality_with : List ℕ → List ℕ → EqualityForm
equality_with left right = record { left = left; right = right }

-- the right side, alone
unfoldable pub right_side : (List ℕ → Bool) → List ℕ → Trees → Option EqualityForm
right_side test left none = None
right_side test left (word right others) = guard (test right) (ended others (Some (equality_with left right)))
right_side test left (list inside others) = None

-- Term Term, after `=`
unfoldable pub equality_of : (List ℕ → Bool) → Trees → Option EqualityForm
equality_of test none = None
equality_of test (word left others) = guard (test left) (right_side test left others)
equality_of test (list inside others) = None

-- NUMBER alone: 1 to 9 digits, and possibly a point and 1 to 9 digits (this validator's choice)
unfoldable pub number_of : Trees → Option ℕ
number_of none = None
number_of (word w others) = ended others (billionths_of w)
number_of (list inside others) = None

-- Amount alone = NUMBER | `(N` Term*`)`
unfoldable pub amount_of : (List ℕ → Bool) → Trees → Option AmountForm
amount_of test none = None
amount_of test (word w others) = option_map number_amount (number_of (word w others))
amount_of test (list inside others) = ended others (option_map function_amount (function_in test inside))

-- `total-cost` alone
unfoldable pub target_of : Trees → Option (Unit {0})
target_of none = None
target_of (word w others) = guard (is_same_word w total_cost_word) (end_of others)
target_of (list inside others) = None

-- `(total-cost)` Amount, after `increase`
unfoldable pub increase_of : (List ℕ → Bool) → Trees → Option AmountForm
increase_of test none = None
increase_of test (word w others) = None
increase_of test (list target others) = option_and_then (λ _. amount_of test others) (target_of target)

-- a value of a function
abbrev pub value_with : AtomForm → ℕ → ValueForm
value_with function value = record { function = function; value = value }

-- a function with its value, if there are both
abbrev pub value_by : Option AtomForm → Option ℕ → Option ValueForm
value_by None number = None
value_by (Some function) number = option_map (value_with function) number

-- `(N` Name*`)` NUMBER, after `=`
unfoldable pub value_of : (List ℕ → Bool) → Trees → Option ValueForm
value_of test none = None
value_of test (word w others) = None
value_of test (list inside others) = value_by (function_in test inside) (number_of others)

-- `(N` Term*`)`, after `not`, inside its parentheses
unfoldable pub negated_atom_in : Scope → Trees → Option AtomForm
negated_atom_in scope none = None
negated_atom_in scope (word w others) = guard (is_atom_head (list_head scope w (begins_with_list others))) (atom_of (is_term scope.context) w others)
negated_atom_in scope (list inside others) = None

-- `(N` Term*`)` alone, after `not`
unfoldable pub negated_atom_of : Scope → Trees → Option AtomForm
negated_atom_of scope none = None
negated_atom_of scope (word w others) = None
negated_atom_of scope (list inside others) = ended others (negated_atom_in scope inside)

-- the initial atom or value that a word heads
abbrev pub initial_by : ListHead → Scope → List ℕ → Trees → Option InitialForm
initial_by head.Atom scope w others = option_map (initial_atom true) (atom_of (is_term scope.context) w others)
initial_by head.Not scope w others = option_map (initial_atom false) (negated_atom_of scope others)
initial_by head.Value scope w others = option_map initial_value (value_of (is_term scope.context) others)
initial_by found scope w others = None

-- InitItem = `(N` Name*`)` | `(not (N` Name*`))`, and, if the dialect has it, `(= (N ` Name*`) ` NUMBER`)`
unfoldable pub init_item_in : Dialect → Trees → Option InitialForm
init_item_in dialect none = None
init_item_in dialect (word w others) = initial_by (list_head (scope_at dialect context.Initial) w (begins_with_list others)) (scope_at dialect context.Initial) w others
init_item_in dialect (list inside others) = None

-- the initial atoms and values in what is left of their list
unfoldable pub initial_in : Dialect → Trees → Option (List InitialForm)
initial_in dialect trees = lists_of (init_item_in dialect) trees

-- a formula with `not` before it: that is the sign of an atom or an equality, and negates any other formula
abbrev pub opposite : FormulaForm → FormulaForm
opposite (atom_formula true atom) = atom_formula false atom
opposite (equality_formula true equality) = equality_formula false equality
opposite formula = negation formula

-- whether the first word heads an atom or an equality
unfoldable pub begins_literal : Scope → Trees → Bool
begins_literal scope none = false
begins_literal scope (word w others) = is_literal_head (list_head scope w (begins_with_list others))
begins_literal scope (list inside others) = false

-- whether a formula may be in the parentheses after `not`: any, if the dialect has connectives, and otherwise an atom or an equality
unfoldable pub may_be_negated : Scope → Trees → Bool
may_be_negated scope trees = has_connectives scope.dialect || begins_literal scope trees

-- what follows the first word of a list, read as each of the things that a word may head in a formula
pub record FormulaReadings : Type 0 where
  pub atom : Option AtomForm
  pub equality : Option EqualityForm
  pub negated : Option FormulaForm
  pub several : Option (List FormulaForm)
  pub implied : Option (FormulaForm × FormulaForm)
  pub bound : Option (List VariableGroup × FormulaForm)

-- the formula that a word heads
abbrev pub formula_by : ListHead → FormulaReadings → Option FormulaForm
formula_by head.Atom read = option_map (atom_formula true) read.atom
formula_by head.Equality read = option_map (equality_formula true) read.equality
formula_by head.Not read = option_map opposite read.negated
formula_by head.And read = option_map (λ formulas. conjunction (formulas_of formulas)) read.several
formula_by head.Or read = option_map (λ formulas. disjunction (formulas_of formulas)) read.several
formula_by head.Imply read = option_map (λ sides. implication sides.0 sides.1) read.implied
formula_by head.Exists read = option_map (λ binding. exists binding.0 binding.1) read.bound
formula_by head.ForAll read = option_map (λ binding. for_all binding.0 binding.1) read.bound
formula_by found read = None

-- Formula = `()` | `(N` Term*`)` | `(= `Term Term`)` | `(not` Formula`)` | `(and` Formula*`)` | `(or` Formula*`)` | `(imply` Formula Formula`)` |
-- `(exists (`Typed(V)`)` Formula`)` | `(forall (`Typed(V)`)` Formula`)`, as far as the dialect has them; `()` is an `and` without parts
unfoldable mutual
  pub formula_in : Scope → Trees → Option FormulaForm
  formula_in scope none = Some (conjunction no_formulas)
  formula_in scope (word w others) = formula_by (list_head scope w (begins_with_list others)) (record {
    atom = atom_of (is_term scope.context) w others;
    equality = equality_of (is_term scope.context) others;
    negated = negated_in scope others;
    several = formulas_in scope others;
    implied = implied_in scope others;
    bound = bound_in scope others;
  })
  formula_in scope (list inside others) = None

  -- Formula*
  pub formulas_in : Scope → Trees → Option (List FormulaForm)
  formulas_in scope none = Some []
  formulas_in scope (word w others) = None
  formulas_in scope (list inside others) = followed_by (formula_in scope inside) (formulas_in scope others)

  -- one formula
  pub lone_formula : Scope → Trees → Option FormulaForm
  lone_formula scope none = None
  lone_formula scope (word w others) = None
  lone_formula scope (list inside others) = ended others (formula_in scope inside)

  -- one formula that may be negated
  pub negated_in : Scope → Trees → Option FormulaForm
  negated_in scope none = None
  negated_in scope (word w others) = None
  negated_in scope (list inside others) = ended others (guard (may_be_negated scope inside) (formula_in scope inside))

  -- a premise and a conclusion
  pub implied_in : Scope → Trees → Option (FormulaForm × FormulaForm)
  implied_in scope none = None
  implied_in scope (word w others) = None
  implied_in scope (list premise others) = both (formula_in scope premise) (lone_formula scope others)

  -- `(`Typed(V)`)` and one formula, in which terms may be variables
  pub bound_in : Scope → Trees → Option (List VariableGroup × FormulaForm)
  bound_in scope none = None
  bound_in scope (word w others) = None
  bound_in scope (list variables others) = both (typed_variables [] variables) (lone_formula (scope_at scope.dialect context.Condition) others)

-- a formula that may be negated, inside its parentheses
unfoldable pub negatable_in : Scope → Trees → Option FormulaForm
negatable_in scope trees = guard (may_be_negated scope trees) (formula_in scope trees)

-- a formula, after its first word
unfoldable pub headed_formula : Scope → List ℕ → Trees → Option FormulaForm
headed_formula scope w others = formula_in scope (word w others)

-- what follows the first word of a list, read as each of the things that a word may head in an effect
pub record EffectReadings : Type 0 where
  pub atom : Option AtomForm
  pub negated : Option AtomForm
  pub raised : Option AmountForm
  pub several : Option (List EffectForm)
  pub conditional : Option (FormulaForm × EffectForm)
  pub bound : Option (List VariableGroup × EffectForm)

-- the effect that a word heads
abbrev pub effect_by : ListHead → EffectReadings → Option EffectForm
effect_by head.Atom read = option_map (atom_effect true) read.atom
effect_by head.Not read = option_map (atom_effect false) read.negated
effect_by head.Increase read = option_map increase_effect read.raised
effect_by head.And read = option_map (λ effects. joint_effect (effects_of effects)) read.several
effect_by head.When read = option_map (λ parts. conditional_effect parts.0 parts.1) read.conditional
effect_by head.ForAll read = option_map (λ binding. universal_effect binding.0 binding.1) read.bound
effect_by found read = None

-- Effect = `()` | `(N` Term*`)` | `(not (N` Term*`))` | `(increase (total-cost) `Amount`)` | `(and` Effect*`)` | `(when` Formula Effect`)` |
-- `(forall (`Typed(V)`)` Effect`)`, as far as the dialect has them; `()` is an `and` without parts
unfoldable mutual
  pub effect_in : Scope → Trees → Option EffectForm
  effect_in scope none = Some (joint_effect no_effects)
  effect_in scope (word w others) = effect_by (list_head scope w (begins_with_list others)) (record {
    atom = atom_of (is_term scope.context) w others;
    negated = negated_atom_of scope others;
    raised = increase_of (is_term scope.context) others;
    several = effects_in scope others;
    conditional = conditional_in scope others;
    bound = bound_effect_in scope others;
  })
  effect_in scope (list inside others) = None

  -- Effect*
  pub effects_in : Scope → Trees → Option (List EffectForm)
  effects_in scope none = Some []
  effects_in scope (word w others) = None
  effects_in scope (list inside others) = followed_by (effect_in scope inside) (effects_in scope others)

  -- one effect
  pub lone_effect : Scope → Trees → Option EffectForm
  lone_effect scope none = None
  lone_effect scope (word w others) = None
  lone_effect scope (list inside others) = ended others (effect_in scope inside)

  -- a condition and one effect
  pub conditional_in : Scope → Trees → Option (FormulaForm × EffectForm)
  conditional_in scope none = None
  conditional_in scope (word w others) = None
  conditional_in scope (list condition others) =
      both (formula_in (scope_at scope.dialect context.Condition) condition) (lone_effect (scope_at scope.dialect context.InnerEffect) others)

  -- `(`Typed(V)`)` and one effect
  pub bound_effect_in : Scope → Trees → Option (List VariableGroup × EffectForm)
  bound_effect_in scope none = None
  bound_effect_in scope (word w others) = None
  bound_effect_in scope (list variables others) = both (typed_variables [] variables) (lone_effect (scope_at scope.dialect context.InnerEffect) others)

-- an effect, after its first word
unfoldable pub headed_effect : Scope → List ℕ → Trees → Option EffectForm
headed_effect scope w others = effect_in scope (word w others)

-- a predicate or a function with its variables
abbrev pub predicate_with : List ℕ → List VariableGroup → PredicateForm
predicate_with name variables = record { name = name; variables = variables }

-- a predicate or a function: its name, and its variables
unfoldable pub predicate_of : List ℕ → Trees → Option PredicateForm
predicate_of w variables = option_map (predicate_with w) (typed_variables [] variables)

-- `(N` Typed(V)`)`, where N is no reserved word
unfoldable pub predicate_in : Trees → Option PredicateForm
predicate_in none = None
predicate_in (word w variables) = name_by (formula_head w) (predicate_of w variables)
predicate_in (list inside others) = None

-- functions `(N` Typed(V)`)`, possibly with `- number` after some of them; `some` says whether there is a function since the last `number`
unfoldable mutual
  pub functions_of : Bool → Trees → Option (List PredicateForm)
  functions_of some none = Some []
  functions_of some (word w others) = guard (some && is_dash w) (functions_typed others)
  functions_of some (list inside others) = followed_by (predicate_in inside) (functions_of true others)

  -- the type after the dash, and the functions after it
  pub functions_typed : Trees → Option (List PredicateForm)
  functions_typed none = None
  functions_typed (word w others) = guard (is_same_word w number_word) (functions_of false others)
  functions_typed (list inside others) = None

-- an action of which no part is given
unfoldable pub no_parts : ActionParts
no_parts = record { parameters = None; precondition = None; effect = None }

-- the parts of an action with its parameters
abbrev pub with_parameters : ActionParts → List VariableGroup → ActionParts
with_parameters given value = record given { parameters = Some value }

-- the parts of an action with its precondition
abbrev pub with_precondition : ActionParts → FormulaForm → ActionParts
with_precondition given value = record given { precondition = Some value }

-- the parts of an action with its effect
abbrev pub with_effect : ActionParts → EffectForm → ActionParts
with_effect given value = record given { effect = Some value }

-- whether a part is given already
unfoldable pub is_part_given : ActionPart → ActionParts → Bool
is_part_given part.Parameters given = is_some given.parameters
is_part_given part.Precondition given = is_some given.precondition
is_part_given part.Effect given = is_some given.effect

-- the parts with this one, whose value is the list
unfoldable pub part_by : Dialect → ActionPart → ActionParts → Trees → Option ActionParts
part_by dialect part.Parameters given value = option_map (with_parameters given) (typed_variables [] value)
part_by dialect part.Precondition given value = option_map (with_precondition given) (formula_in (scope_at dialect context.Condition) value)
part_by dialect part.Effect given value = option_map (with_effect given) (effect_in (scope_at dialect context.Effect) value)

-- the parts with the one that a word names, each at most once
unfoldable pub part_named : Dialect → Option ActionPart → ActionParts → Trees → Option ActionParts
part_named dialect None given value = None
part_named dialect (Some named) given value = guard (not (is_part_given named given)) (part_by dialect named given value)

-- ActPart = `:parameters (`Typed(V)`)` | `:precondition` Formula | `:effect` Effect, in any order
unfoldable pub parts_of : Dialect → ActionParts → Trees → Option ActionParts
parts_of dialect given none = Some given
parts_of dialect given (word w none) = None
parts_of dialect given (word w (word v others)) = None
parts_of dialect given (word w (list value others)) = option_and_then (λ more. parts_of dialect more others) (part_named dialect (action_part w) given value)
parts_of dialect given (list inside others) = None

-- an action with its name; if a part is not given, there are no parameters, nothing is required, and nothing is done
unfoldable pub action_form : List ℕ → ActionParts → ActionForm
action_form name parts = record {
  name = name;
  parameters = unwrap_or parts.parameters [];
  precondition = unwrap_or parts.precondition (conjunction no_formulas);
  effect = unwrap_or parts.effect (joint_effect no_effects);
}

-- `(:action N` ActPart*`)`, after the keyword
unfoldable pub action_of : Dialect → Trees → Option ActionForm
action_of dialect none = None
action_of dialect (word name parts) = guard (is_name name) (option_map (action_form name) (parts_of dialect no_parts parts))
action_of dialect (list inside others) = None

-- a domain of which no section is given
unfoldable pub no_domain_sections : DomainSections
no_domain_sections = record { requirements = false; types = None; constants = None; predicates = None; functions = None; actions = [] }

-- the sections of a domain with `:requirements`
abbrev pub with_requirements : DomainSections → DomainSections
with_requirements given = record given { requirements = true }

-- the sections of a domain with its types
abbrev pub with_types : DomainSections → List NameGroup → DomainSections
with_types given value = record given { types = Some value }

-- the sections of a domain with its constants
abbrev pub with_constants : DomainSections → List NameGroup → DomainSections
with_constants given value = record given { constants = Some value }

-- the sections of a domain with its predicates
abbrev pub with_predicates : DomainSections → List PredicateForm → DomainSections
with_predicates given value = record given { predicates = Some value }

-- the sections of a domain with its functions
abbrev pub with_functions : DomainSections → List PredicateForm → DomainSections
with_functions given value = record given { functions = Some value }

-- the sections of a domain with one more action
abbrev pub with_action : DomainSections → ActionForm → DomainSections
with_action given value = record given { actions = given.actions ++ value ∷ [] }

-- whether a section that may be given only once is given already
unfoldable pub is_domain_section_given : DomainSection → DomainSections → Bool
is_domain_section_given section.Requirements given = given.requirements
is_domain_section_given section.Types given = is_some given.types
is_domain_section_given section.Constants given = is_some given.constants
is_domain_section_given section.Predicates given = is_some given.predicates
is_domain_section_given section.Functions given = is_some given.functions
is_domain_section_given section.Action given = false

-- the sections with this one
unfoldable pub domain_section_by : Dialect → DomainSection → DomainSections → Trees → Option DomainSections
domain_section_by dialect section.Requirements given trees = option_map (λ _. with_requirements given) (keywords_of trees)
domain_section_by dialect section.Types given trees = option_map (with_types given) (typed_names [] trees)
domain_section_by dialect section.Constants given trees = option_map (with_constants given) (typed_names [] trees)
domain_section_by dialect section.Predicates given trees = option_map (with_predicates given) (lists_of predicate_in trees)
domain_section_by dialect section.Functions given trees = option_map (with_functions given) (functions_of false trees)
domain_section_by dialect section.Action given trees = option_map (with_action given) (action_of dialect trees)

-- the sections with the one that a word heads, each at most once except actions
unfoldable pub domain_section_headed : Dialect → Option DomainSection → DomainSections → Trees → Option DomainSections
domain_section_headed dialect None given trees = None
domain_section_headed dialect (Some headed) given trees = guard (not (is_domain_section_given headed given)) (domain_section_by dialect headed given trees)

-- DomSection = `(:requirements K*)` | `(:types Typed(N))` | `(:constants Typed(N))` | `(:predicates (N` Typed(V)`)*)` |
-- `(:functions` FunctionGroup*`)` | `(:action N` ActPart*`)`
unfoldable pub domain_section_in : Dialect → DomainSections → Trees → Option DomainSections
domain_section_in dialect given none = None
domain_section_in dialect given (word w others) = domain_section_headed dialect (domain_section dialect w) given others
domain_section_in dialect given (list inside others) = None

-- the sections in any order
unfoldable pub domain_sections_of : Dialect → DomainSections → Trees → Option DomainSections
domain_sections_of dialect given none = Some given
domain_sections_of dialect given (word w others) = None
domain_sections_of dialect given (list inside others) = option_and_then (λ more. domain_sections_of dialect more others) (domain_section_in dialect given inside)

-- `(domain N)` or `(problem N)`, inside the parentheses
unfoldable pub header_of : List ℕ → Trees → Option (List ℕ)
header_of kind trees = option_and_then lone_name (behind_word kind trees)

-- a domain with its name; a section that is not given holds nothing
unfoldable pub domain_form : List ℕ → DomainSections → DomainForm
domain_form name sections = record {
  name = name;
  types = unwrap_or sections.types [];
  constants = unwrap_or sections.constants [];
  predicates = unwrap_or sections.predicates [];
  functions = unwrap_or sections.functions [];
  actions = sections.actions;
}

-- a domain of a name and sections, if there are both
unfoldable pub domain_by : Option (List ℕ) → Option DomainSections → Option DomainForm
domain_by None sections = None
domain_by (Some name) sections = option_map (domain_form name) sections

-- `(domain N)` DomSection*
unfoldable pub domain_body : Dialect → Trees → Option DomainForm
domain_body dialect none = None
domain_body dialect (word w others) = None
domain_body dialect (list header sections) = domain_by (header_of domain_word header) (domain_sections_of dialect no_domain_sections sections)

-- `define (domain N)` DomSection*
unfoldable pub domain_in : Dialect → Trees → Option DomainForm
domain_in dialect trees = option_and_then (domain_body dialect) (behind_word define_word trees)

-- Domain = `(define (domain N)` DomSection*`)`, and nothing else in the text
unfoldable pub domain_syntax : Dialect → Trees → Option DomainForm
domain_syntax dialect none = None
domain_syntax dialect (word w others) = None
domain_syntax dialect (list inside others) = ended others (domain_in dialect inside)

-- a problem of which no section is given
unfoldable pub no_problem_sections : ProblemSections
no_problem_sections = record { domain = None; requirements = false; objects = None; init = None; goal = None; metric = false; length = false }

-- the sections of a problem with its domain's name
abbrev pub with_domain : ProblemSections → List ℕ → ProblemSections
with_domain given value = record given { domain = Some value }

-- the sections of a problem with `:requirements`
abbrev pub with_problem_requirements : ProblemSections → ProblemSections
with_problem_requirements given = record given { requirements = true }

-- the sections of a problem with its objects
abbrev pub with_objects : ProblemSections → List NameGroup → ProblemSections
with_objects given value = record given { objects = Some value }

-- the sections of a problem with `:metric`
abbrev pub with_metric : ProblemSections → ProblemSections
with_metric given = record given { metric = true }

-- the sections of a problem with `:length`
abbrev pub with_length : ProblemSections → ProblemSections
with_length given = record given { length = true }

-- the sections of a problem with its initial atoms and values
abbrev pub with_init : ProblemSections → List InitialForm → ProblemSections
with_init given value = record given { init = Some value }

-- the sections of a problem with its goal
abbrev pub with_goal : ProblemSections → FormulaForm → ProblemSections
with_goal given value = record given { goal = Some value }

-- one formula
unfoldable pub goal_of : Dialect → Trees → Option FormulaForm
goal_of dialect trees = lone_formula (scope_at dialect context.Goal) trees

-- whether a section is given already
unfoldable pub is_problem_section_given : ProblemSection → ProblemSections → Bool
is_problem_section_given problem.Domain given = is_some given.domain
is_problem_section_given problem.Requirements given = given.requirements
is_problem_section_given problem.Objects given = is_some given.objects
is_problem_section_given problem.Init given = is_some given.init
is_problem_section_given problem.Goal given = is_some given.goal
is_problem_section_given problem.Metric given = given.metric
is_problem_section_given problem.Length given = given.length

-- the sections with this one
unfoldable pub problem_section_by : Dialect → ProblemSection → ProblemSections → Trees → Option ProblemSections
problem_section_by dialect problem.Domain given trees = option_map (with_domain given) (lone_name trees)
problem_section_by dialect problem.Requirements given trees = option_map (λ _. with_problem_requirements given) (keywords_of trees)
problem_section_by dialect problem.Objects given trees = option_map (with_objects given) (typed_names [] trees)
problem_section_by dialect problem.Init given trees = option_map (with_init given) (initial_in dialect trees)
problem_section_by dialect problem.Goal given trees = option_map (with_goal given) (goal_of dialect trees)
problem_section_by dialect problem.Metric given trees = Some (with_metric given)
problem_section_by dialect problem.Length given trees = Some (with_length given)

-- the sections with the one that a word heads, each at most once
unfoldable pub problem_section_headed : Dialect → Option ProblemSection → ProblemSections → Trees → Option ProblemSections
problem_section_headed dialect None given trees = None
problem_section_headed dialect (Some headed) given trees = guard (not (is_problem_section_given headed given)) (problem_section_by dialect headed given trees)

-- ProbSection = `(:domain N)` | `(:requirements K*)` | `(:objects Typed(N))` | `(:init` InitItem*`)` | `(:goal` Formula`)` | `(:metric ..)` |
-- `(:length ..)`; the last two may have anything
unfoldable pub problem_section_in : Dialect → ProblemSections → Trees → Option ProblemSections
problem_section_in dialect given none = None
problem_section_in dialect given (word w others) = problem_section_headed dialect (problem_section w) given others
problem_section_in dialect given (list inside others) = None

-- the sections in any order
unfoldable pub problem_sections_of : Dialect → ProblemSections → Trees → Option ProblemSections
problem_sections_of dialect given none = Some given
problem_sections_of dialect given (word w others) = None
problem_sections_of dialect given (list inside others) = option_and_then (λ more. problem_sections_of dialect more others) (problem_section_in dialect given inside)

-- a problem with its name; `:domain` and `:goal` must be given
unfoldable pub problem_form : List ℕ → ProblemSections → Option (List ℕ) → Option FormulaForm → Option ProblemForm
problem_form name given None goal = None
problem_form name given (Some domain) None = None
problem_form name given (Some domain) (Some goal) =
    Some (record { name = name; domain = domain; objects = unwrap_or given.objects []; init = unwrap_or given.init []; goal = goal })

-- a problem of a name and sections, if there are both
unfoldable pub problem_by : Option (List ℕ) → Option ProblemSections → Option ProblemForm
problem_by None sections = None
problem_by (Some name) None = None
problem_by (Some name) (Some given) = problem_form name given given.domain given.goal

-- `(problem N)` ProbSection*
unfoldable pub problem_body : Dialect → Trees → Option ProblemForm
problem_body dialect none = None
problem_body dialect (word w others) = None
problem_body dialect (list header sections) = problem_by (header_of problem_word header) (problem_sections_of dialect no_problem_sections sections)

-- `define (problem N)` ProbSection*
unfoldable pub problem_in : Dialect → Trees → Option ProblemForm
problem_in dialect trees = option_and_then (problem_body dialect) (behind_word define_word trees)

-- Problem = `(define (problem N)` ProbSection*`)`, and nothing else in the text
unfoldable pub problem_syntax : Dialect → Trees → Option ProblemForm
problem_syntax dialect none = None
problem_syntax dialect (word w others) = None
problem_syntax dialect (list inside others) = ended others (problem_in dialect inside)
