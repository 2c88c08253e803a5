-- The text of conditions, as PDDL and as JSON (this validator's choice).

use Rattle.std.specs.Prelude.{ℕ, ◌==◌, Bool, true, false, List, [], ◌∷◌, ◌++◌, codes, map, if◌then◌else◌}
use Rattle.std.specs.List.{flat_map}
use Rattle.std.specs.Map.{keys_of}
use Rattle.formulas.specs.declared.terms.Term.{Term}
use Rattle.formulas.specs.declared.terms.Term.TheVariants.{Param, Bound, Object}
use Rattle.formulas.specs.declared.terms.Pattern.{Pattern}
use Rattle.formulas.specs.declared.variables.VariableGroup.{VariableGroup}
use Rattle.formulas.specs.Tree.{Tree, atom, equality, negation, conjunction, disjunction, implication, exists, for_all, Parts, no_parts, part}
use Rattle.strips_task.specs.declared.tasks.TaskParts.{TaskParts}
use Rattle.report_text.specs.declared.notation.Notation.{Notation}
use Rattle.report_text.specs.declared.notation.Notation.TheVariants.{Pddl, Json}
use Rattle.report_text.specs.Notation.{word, listed, headed}
use Rattle.report_text.specs.Pieces.{name_at}

-- the name of a term: of a variable with its question mark, or of an object. `names` are those of the variables that are bound around it, by their level. A
-- condition that is printed names no parameter
abbrev pub term_name : TaskParts → List (List ℕ) → Term → List ℕ
term_name task names (Param index) = []
term_name task names (Bound level) = codes "?" ++ name_at names level
term_name task names (Object object) = name_at (keys_of task.objects) object

-- the names of a quantifier's variables
abbrev pub names_of : List VariableGroup → List (List ℕ)
names_of groups = flat_map (λ group. group.names) groups

-- whether these are the types of any object: `object`, which is type 0, alone
abbrev pub is_object : List ℕ → Bool
is_object (type ∷ []) = type == 0
is_object types = false

module _ (notation : Notation) where
  -- a negative literal is `(not (p a b))`
  abbrev pub signed : Bool → List ℕ → List ℕ
  signed positive text = if positive then text else headed notation (codes "not") (text ∷ [])

  -- variables with their question marks
  abbrev pub variable_words : List (List ℕ) → List (List ℕ)
  variable_words names = map (λ name. word notation (codes "?" ++ name)) names

  module _ (task : TaskParts) where
    -- the word of a term
    abbrev pub term_word : List (List ℕ) → Term → List ℕ
    term_word names term = word notation (term_name task names term)

    -- an atom, as `(p a ?x)`
    abbrev pub pattern_text : List (List ℕ) → Pattern → List ℕ
    pattern_text names pattern =
        headed notation (name_at (keys_of task.preds) pattern.pred) (map (term_word names) pattern.terms)

    -- an equality, as `(= a ?x)`
    abbrev pub equality_text : List (List ℕ) → Term → Term → List ℕ
    equality_text names left right =
        headed notation (codes "=") (term_word names left ∷ term_word names right ∷ [])

    -- the name of the type with a number
    abbrev pub type_word : ℕ → List ℕ
    type_word type = word notation (name_at (keys_of task.types) type)

    -- a single type by its name, and others as `(either a b)`
    abbrev pub types_text : List ℕ → List ℕ
    types_text (type ∷ []) = type_word type
    types_text types = headed notation (codes "either") (map type_word types)

    -- the types of variables, behind a hyphen
    abbrev pub types_words : List ℕ → List (List ℕ)
    types_words types = word notation (codes "-") ∷ types_text types ∷ []

    -- the types of variables that are followed by no others, where `object` is left out
    abbrev pub last_types_words : List ℕ → List (List ℕ)
    last_types_words types = if is_object types then [] else types_words types

    -- a group of variables with its types, and whether it is the last of its list
    abbrev pub group_words : Bool → VariableGroup → List (List ℕ)
    group_words last group = variable_words group.names ++ (if last then last_types_words group.types else types_words group.types)

    -- the words of a list of variables, such as `?x ?y - block ?z`
    abbrev pub groups_words : List VariableGroup → List (List ℕ)
    groups_words [] = []
    groups_words (group ∷ []) = group_words true group
    groups_words (group ∷ next ∷ groups) = group_words false group ++ groups_words (next ∷ groups)

    abbrev mutual
      -- a formula, where variables of these names are bound around it
      pub formula_text : List (List ℕ) → Tree → List ℕ
      formula_text names (atom positive pattern) = signed positive (pattern_text names pattern)
      formula_text names (equality positive left right) = signed positive (equality_text names left right)
      formula_text names (negation tree) = headed notation (codes "not") (formula_text names tree ∷ [])
      formula_text names (conjunction parts) = headed notation (codes "and") (parts_texts names parts)
      formula_text names (disjunction parts) = headed notation (codes "or") (parts_texts names parts)
      formula_text names (implication premise conclusion) =
          headed notation (codes "imply") (formula_text names premise ∷ formula_text names conclusion ∷ [])
      formula_text names (exists groups body) =
          headed notation (codes "exists") (listed notation (groups_words groups) ∷ formula_text (names ++ names_of groups) body ∷ [])
      formula_text names (for_all groups body) =
          headed notation (codes "forall") (listed notation (groups_words groups) ∷ formula_text (names ++ names_of groups) body ∷ [])

      pub parts_texts : List (List ℕ) → Parts → List (List ℕ)
      parts_texts names no_parts = []
      parts_texts names (part tree parts) = formula_text names tree ∷ parts_texts names parts

-- a condition, which names no variable that is bound outside it
abbrev pub condition_text : TaskParts → Tree → List ℕ
condition_text task tree = formula_text Pddl task [] tree

-- a condition in JSON
abbrev pub json_condition : TaskParts → Tree → List ℕ
json_condition task tree = formula_text Json task [] tree
