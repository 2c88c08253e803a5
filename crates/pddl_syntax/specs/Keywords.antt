-- The words that have a meaning in PDDL (PDDL 2.1, Fox and Long 2003, appendix A).

use Rattle.std.specs.Prelude.{ℕ, List, Bool, ◌||◌, codes}
use Rattle.pddl_words.specs.Kinds.{is_same_word}

-- what begins a domain and a problem
abbrev pub define_word : List ℕ
define_word = codes "define"

-- what comes before a domain's name
abbrev pub domain_word : List ℕ
domain_word = codes "domain"

-- what comes before a problem's name
abbrev pub problem_word : List ℕ
problem_word = codes "problem"

-- what joins conditions or effects
abbrev pub and_word : List ℕ
and_word = codes "and"

-- what negates an atom
abbrev pub not_word : List ℕ
not_word = codes "not"

-- what joins formulas of which one has to hold
abbrev pub or_word : List ℕ
or_word = codes "or"

-- what begins a premise and a conclusion
abbrev pub imply_word : List ℕ
imply_word = codes "imply"

-- what begins variables for which a formula has to hold once
abbrev pub exists_word : List ℕ
exists_word = codes "exists"

-- what begins variables for which a formula has to hold always, or an effect happens
abbrev pub forall_word : List ℕ
forall_word = codes "forall"

-- what begins the condition of an effect
abbrev pub when_word : List ℕ
when_word = codes "when"

-- what begins a choice of types
abbrev pub either_word : List ℕ
either_word = codes "either"

-- the type that is above all others
abbrev pub object_word : List ℕ
object_word = codes "object"

-- what compares two terms, or gives a function its value
abbrev pub equals_word : List ℕ
equals_word = codes "="

-- what raises a number by an amount
abbrev pub increase_word : List ℕ
increase_word = codes "increase"

-- the function without variables that counts what a plan costs
abbrev pub total_cost_word : List ℕ
total_cost_word = codes "total-cost"

-- the type of numbers
abbrev pub number_word : List ℕ
number_word = codes "number"

-- what is written before a type
abbrev pub dash_word : List ℕ
dash_word = codes "-"

-- the section that says what a text uses
abbrev pub requirements_keyword : List ℕ
requirements_keyword = codes ":requirements"

-- the section of types
abbrev pub types_keyword : List ℕ
types_keyword = codes ":types"

-- the section of a domain's objects
abbrev pub constants_keyword : List ℕ
constants_keyword = codes ":constants"

-- the section of a problem's objects
abbrev pub objects_keyword : List ℕ
objects_keyword = codes ":objects"

-- the section that says what to minimise
abbrev pub metric_keyword : List ℕ
metric_keyword = codes ":metric"

-- a section of PDDL 1.2 that is skipped
abbrev pub length_keyword : List ℕ
length_keyword = codes ":length"

-- the section of predicates
abbrev pub predicates_keyword : List ℕ
predicates_keyword = codes ":predicates"

-- the section of functions
abbrev pub functions_keyword : List ℕ
functions_keyword = codes ":functions"

-- what begins an action
abbrev pub action_keyword : List ℕ
action_keyword = codes ":action"

-- an action's parameters
abbrev pub parameters_keyword : List ℕ
parameters_keyword = codes ":parameters"

-- an action's precondition
abbrev pub precondition_keyword : List ℕ
precondition_keyword = codes ":precondition"

-- an action's effect
abbrev pub effect_keyword : List ℕ
effect_keyword = codes ":effect"

-- the section that names a problem's domain
abbrev pub domain_keyword : List ℕ
domain_keyword = codes ":domain"

-- the section of initial literals
abbrev pub init_keyword : List ℕ
init_keyword = codes ":init"

-- the section of the goal
abbrev pub goal_keyword : List ℕ
goal_keyword = codes ":goal"

-- the words that join or guard formulas, besides `and` and `not`
unfoldable pub is_connective : List ℕ → Bool
is_connective w =
    is_same_word w or_word || is_same_word w imply_word || is_same_word w when_word || is_same_word w either_word

-- the words that bind variables in a formula
unfoldable pub is_quantifier : List ℕ → Bool
is_quantifier w = is_same_word w exists_word || is_same_word w forall_word

-- the words that compare
unfoldable pub is_comparison : List ℕ → Bool
is_comparison w =
    is_same_word w equals_word || is_same_word w (codes "<") || is_same_word w (codes ">") || is_same_word w (codes "<=") ||
    is_same_word w (codes ">=")

-- the words besides `and` and `not` that name no predicate
unfoldable pub is_other_reserved : List ℕ → Bool
is_other_reserved w = is_connective w || is_quantifier w || is_comparison w

-- the words that change a number (PDDL 2.1, Fox and Long 2003, section 3)
unfoldable pub is_change : List ℕ → Bool
is_change w =
    is_same_word w increase_word || is_same_word w (codes "decrease") || is_same_word w (codes "assign") || is_same_word w (codes "scale-up") ||
    is_same_word w (codes "scale-down")
