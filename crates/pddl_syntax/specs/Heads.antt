-- What the first word of a list says about the list.

use Rattle.std.specs.Prelude.{ℕ, List, Bool, true, false, ◌||◌, ◌&&◌, Option, Some, None, if◌then◌else◌}
use Rattle.pddl_words.specs.Words.{is_name}
use Rattle.pddl_words.specs.declared.WordKind.{WordKind}
use Rattle.pddl_words.specs.declared.WordKind.TheVariants.{Name, Variable, Keyword, Dash, Other}
use Rattle.pddl_words.specs.Kinds.{is_same_word, kind_of_word}
use Rattle.pddl_syntax.specs.declared.dialect.Dialect.{Dialect}
use Rattle.pddl_syntax.specs.declared.dialect.Dialect.TheVariants as dialect
use Rattle.pddl_syntax.specs.declared.heads.Context.{Context}
use Rattle.pddl_syntax.specs.declared.heads.Context.TheVariants as context
use Rattle.pddl_syntax.specs.declared.heads.Scope.{Scope}
use Rattle.pddl_syntax.specs.declared.heads.FormulaHead.{FormulaHead}
use Rattle.pddl_syntax.specs.declared.heads.FormulaHead.TheVariants as formula
use Rattle.pddl_syntax.specs.declared.heads.ListHead.{ListHead}
use Rattle.pddl_syntax.specs.declared.heads.ListHead.TheVariants as head
use Rattle.pddl_syntax.specs.declared.heads.DomainSection.{DomainSection}
use Rattle.pddl_syntax.specs.declared.heads.DomainSection.TheVariants as section
use Rattle.pddl_syntax.specs.declared.heads.ActionPart.{ActionPart}
use Rattle.pddl_syntax.specs.declared.heads.ActionPart.TheVariants as part
use Rattle.pddl_syntax.specs.declared.heads.ProblemSection.{ProblemSection}
use Rattle.pddl_syntax.specs.declared.heads.ProblemSection.TheVariants as problem
use Rattle.pddl_syntax.specs.Keywords.{and_word, not_word, or_word, imply_word, exists_word, forall_word, when_word, either_word, dash_word, equals_word, increase_word, is_change, is_other_reserved, functions_keyword, requirements_keyword, types_keyword, constants_keyword, predicates_keyword, action_keyword, parameters_keyword, precondition_keyword, effect_keyword, domain_keyword, objects_keyword, init_keyword, goal_keyword, metric_keyword, length_keyword}

-- whether a word is the dash before a type
unfoldable pub is_dash : List ℕ → Bool
is_dash w = is_same_word w dash_word

-- whether a word heads a choice of types
unfoldable pub is_either : List ℕ → Bool
is_either w = is_same_word w either_word

-- whether a word of this kind is a keyword
abbrev pub is_keyword_kind : WordKind → Bool
is_keyword_kind Keyword = true
is_keyword_kind Name = false
is_keyword_kind Variable = false
is_keyword_kind Dash = false
is_keyword_kind Other = false

-- whether a word is a keyword: `:` and a name
unfoldable pub is_keyword : List ℕ → Bool
is_keyword w = is_keyword_kind (kind_of_word w)

-- whether a word of this kind is a variable
abbrev pub is_variable_kind : WordKind → Bool
is_variable_kind Variable = true
is_variable_kind Name = false
is_variable_kind Keyword = false
is_variable_kind Dash = false
is_variable_kind Other = false

-- whether a word is a variable: `?` and a name
unfoldable pub is_variable : List ℕ → Bool
is_variable w = is_variable_kind (kind_of_word w)

-- where a list is, in a text of a dialect
abbrev pub scope_at : Dialect → Context → Scope
scope_at dialect context = record { dialect = dialect; context = context }

-- Term = N | V in actions and inside quantifiers, N elsewhere in problems
unfoldable pub is_term : Context → List ℕ → Bool
is_term context.Condition w = is_name w || is_variable w
is_term context.Goal w = is_name w
is_term context.Effect w = is_name w || is_variable w
is_term context.InnerEffect w = is_name w || is_variable w
is_term context.Initial w = is_name w

-- whether a dialect has functions: their declarations, their values, effects that raise `total-cost`, and also equality
abbrev pub has_functions : Dialect → Bool
has_functions dialect.Strips = false
has_functions dialect.Ipc = true
has_functions dialect.Adl = true

-- whether a dialect has more than literals and `and`: `or`, `imply`, `not` before any formula, quantifiers and conditional effects
abbrev pub has_connectives : Dialect → Bool
has_connectives dialect.Strips = false
has_connectives dialect.Ipc = false
has_connectives dialect.Adl = true

-- what a word heads where a formula, an effect, an initial atom, a function or the declaration of a predicate or a function is due
unfoldable pub formula_head : List ℕ → FormulaHead
formula_head w =
    if is_same_word w and_word then formula.And
    else (if is_same_word w not_word then formula.Not
    else (if is_other_reserved w then formula.Reserved
    else (if is_name w then formula.Name
    else formula.Other)))

-- what `and` heads
abbrev pub and_head : Context → ListHead
and_head context.Condition = head.And
and_head context.Goal = head.And
and_head context.Effect = head.And
and_head context.InnerEffect = head.And
and_head context.Initial = head.Reserved

-- what `=` heads where there are functions, if a list follows or not: terms are compared in formulas, and functions get their values among the initial atoms
abbrev pub equals_head : Context → Bool → ListHead
equals_head context.Condition opens = head.Equality
equals_head context.Goal opens = head.Equality
equals_head context.Effect opens = head.Reserved
equals_head context.InnerEffect opens = head.Reserved
equals_head context.Initial opens = (if opens then head.Value else head.Reserved)

-- whether numbers are changed here
abbrev pub has_changes : Context → Bool
has_changes context.Condition = false
has_changes context.Goal = false
has_changes context.Effect = true
has_changes context.InnerEffect = true
has_changes context.Initial = false

-- what a word that changes a number heads: `increase` may not be under `when` or `forall`
abbrev pub change_head : Context → List ℕ → ListHead
change_head context.Condition w = head.Reserved
change_head context.Goal w = head.Reserved
change_head context.Effect w = (if is_same_word w increase_word then head.Increase else head.Reserved)
change_head context.InnerEffect w = head.Reserved
change_head context.Initial w = head.Reserved

-- what a name heads, if a list follows or not: it is a predicate, unless it changes a number, which a list after it names
abbrev pub name_head : Scope → List ℕ → Bool → ListHead
name_head scope w opens =
    if (has_functions scope.dialect && has_changes scope.context) && (is_change w && opens) then change_head scope.context w
    else head.Atom

-- what a word that joins formulas or binds variables heads in a formula
abbrev pub formula_connective : List ℕ → ListHead
formula_connective w =
    if is_same_word w or_word then head.Or
    else (if is_same_word w imply_word then head.Imply
    else (if is_same_word w exists_word then head.Exists
    else (if is_same_word w forall_word then head.ForAll
    else head.Reserved)))

-- what such a word heads in an effect
abbrev pub effect_connective : List ℕ → ListHead
effect_connective w =
    if is_same_word w when_word then head.When
    else (if is_same_word w forall_word then head.ForAll
    else head.Reserved)

-- what such a word heads here, where there are connectives
abbrev pub connective_head : Context → List ℕ → ListHead
connective_head context.Condition w = formula_connective w
connective_head context.Goal w = formula_connective w
connective_head context.Effect w = effect_connective w
connective_head context.InnerEffect w = effect_connective w
connective_head context.Initial w = head.Reserved

-- what a reserved word besides `and` and `not` heads, if a list follows or not
abbrev pub reserved_head : Scope → List ℕ → Bool → ListHead
reserved_head scope w opens =
    if is_same_word w equals_word then (if has_functions scope.dialect then equals_head scope.context opens else head.Reserved)
    else (if has_connectives scope.dialect then connective_head scope.context w else head.Reserved)

-- what a word heads here, from what it heads elsewhere
abbrev pub head_by : FormulaHead → Scope → List ℕ → Bool → ListHead
head_by formula.And scope w opens = and_head scope.context
head_by formula.Not scope w opens = head.Not
head_by formula.Reserved scope w opens = reserved_head scope w opens
head_by formula.Name scope w opens = name_head scope w opens
head_by formula.Other scope w opens = head.Other

-- what a word heads where a formula, an effect or an initial atom is due, if a list follows it directly or not
unfoldable pub list_head : Scope → List ℕ → Bool → ListHead
list_head scope w opens = head_by (formula_head w) scope w opens

-- whether a word with this meaning heads an atom
abbrev pub is_atom_head : ListHead → Bool
is_atom_head head.Atom = true
is_atom_head found = false

-- whether a word with this meaning heads an atom or an equality
abbrev pub is_literal_head : ListHead → Bool
is_literal_head head.Atom = true
is_literal_head head.Equality = true
is_literal_head found = false

-- the section of a domain that a keyword heads, if any
unfoldable pub domain_section : Dialect → List ℕ → Option DomainSection
domain_section dialect w =
    if is_same_word w requirements_keyword then Some section.Requirements
    else (if is_same_word w types_keyword then Some section.Types
    else (if is_same_word w constants_keyword then Some section.Constants
    else (if is_same_word w predicates_keyword then Some section.Predicates
    else (if is_same_word w action_keyword then Some section.Action
    else (if has_functions dialect && is_same_word w functions_keyword then Some section.Functions
    else None)))))

-- the part of an action that a keyword names, if any
unfoldable pub action_part : List ℕ → Option ActionPart
action_part w =
    if is_same_word w parameters_keyword then Some part.Parameters
    else (if is_same_word w precondition_keyword then Some part.Precondition
    else (if is_same_word w effect_keyword then Some part.Effect
    else None))

-- the section of a problem that a keyword heads, if any
unfoldable pub problem_section : List ℕ → Option ProblemSection
problem_section w =
    if is_same_word w domain_keyword then Some problem.Domain
    else (if is_same_word w requirements_keyword then Some problem.Requirements
    else (if is_same_word w objects_keyword then Some problem.Objects
    else (if is_same_word w init_keyword then Some problem.Init
    else (if is_same_word w goal_keyword then Some problem.Goal
    else (if is_same_word w metric_keyword then Some problem.Metric
    else (if is_same_word w length_keyword then Some problem.Length
    else None))))))
