-- What makes the parts of a task well formed.

use Rattle.std.specs.Prelude.{◌≡◌, ℕ, ◌≤◌, Bool, true, false, ◌&&◌, nat_eq, nat_lt, nat_le, IsTrue, List, [], ◌∷◌, ◌++◌, length, slice_get, map, Option, None, Some}
use Rattle.std.specs.List.{list_all, zip}
use Rattle.std.specs.Option.{option_map}
use Rattle.std.specs.Map.{keys_of, values_of}
use Rattle.formulas.specs.declared.atoms.Atom.{Atom}
use Rattle.formulas.specs.declared.terms.Term.{Term}
use Rattle.formulas.specs.declared.terms.Term.TheVariants.{Param, Bound, Object}
use Rattle.formulas.specs.declared.terms.Pattern.{Pattern}
use Rattle.formulas.specs.EffectTree.{EffectTree, change, joint, conditional, universal, EffectParts, no_effects, effect_part}
use Rattle.formulas.specs.Tree.{Tree, atom, equality, negation, conjunction, disjunction, implication, exists, for_all, Parts, no_parts, part}
use Rattle.formulas.specs.Variables.{variable_types}
use Rattle.strips_task.specs.declared.actions.Action.{Action}
use Rattle.strips_task.specs.declared.tasks.TaskParts.{TaskParts}
use Rattle.strips_task.specs.Names.{are_distinct}
use Rattle.strips_task.specs.Types.{IsTypeTree, fits}

-- how many types a task may have, `object` among them
abbrev pub most_types : ℕ
most_types = 1025

-- how many objects a task may have
abbrev pub most_objects : ℕ
most_objects = 65535

-- how many predicates a task may have
abbrev pub most_predicates : ℕ
most_predicates = 4096

-- how many actions a task may have
abbrev pub most_actions : ℕ
most_actions = 4096

-- how many variables a predicate or an action may have
abbrev pub most_variables : ℕ
most_variables = 32

-- how many types a variable may be given to choose from
abbrev pub most_alternatives : ℕ
most_alternatives = 32

-- whether the alternatives of a variable are types, and not too many. There may be none, which no text can say: then no object fits the variable,
-- and the variable fits everywhere, since it never stands for an object
unfoldable pub are_alternatives : List ℕ → List ℕ → Bool
are_alternatives parents types = nat_le (length types) most_alternatives && list_all (λ type. nat_lt type (length parents)) types

-- whether the variables of a predicate or an action are not too many, and each has alternatives
unfoldable pub are_variables : List ℕ → List (List ℕ) → Bool
are_variables parents variables = nat_le (length variables) most_variables && list_all (are_alternatives parents) variables

-- the types of a term, if there is such a parameter, variable or object. Objects come with their types, in the order of their numbers
unfoldable pub term_types : List (List ℕ × ℕ) → List (List ℕ) → List (List ℕ) → Term → Option (List ℕ)
term_types objects params bound (Param number) = slice_get params number
term_types objects params bound (Bound level) = slice_get bound level
term_types objects params bound (Object number) = option_map (λ type. type ∷ []) (slice_get (values_of objects) number)

-- whether a term with these types, if it has any, fits an argument with those
unfoldable pub is_fitting : List ℕ → Option (List ℕ) → List ℕ → Bool
is_fitting parents None allowed = false
is_fitting parents (Some types) allowed = fits parents types allowed

-- whether there is a term for each argument of the predicate, and each fits
unfoldable pub are_fitting : List ℕ → List (Option (List ℕ)) → Option (List (List ℕ)) → Bool
are_fitting parents terms None = false
are_fitting parents terms (Some allowed) =
    nat_eq (length terms) (length allowed) && list_all (λ p. is_fitting parents p.0 p.1) (zip terms allowed)

-- whether a pattern has a declared predicate, and terms that fit its arguments
unfoldable pub is_pattern : TaskParts → List (List ℕ) → List (List ℕ) → Pattern → Bool
is_pattern task params bound pattern =
    are_fitting task.parents (map (term_types task.objects params bound) pattern.terms) (slice_get (values_of task.preds) pattern.pred)

-- whether a number is that of an object
unfoldable pub is_object : TaskParts → ℕ → Bool
is_object task object = nat_lt object (length task.objects)

-- whether a term is a parameter, a variable that is bound or an object
unfoldable pub is_known : TaskParts → List (List ℕ) → List (List ℕ) → Term → Bool
is_known task params bound (Param index) = nat_lt index (length params)
is_known task params bound (Bound level) = nat_lt level (length bound)
is_known task params bound (Object object) = is_object task object

module _ (task : TaskParts) (params : List (List ℕ)) where
  unfoldable mutual
    -- whether the atoms of a formula are patterns of the task, its equalities compare known terms, of whatever types, and its quantifiers have variables of
    -- the task's types. `bound` are the types of the variables that are bound around it
    pub is_formula : List (List ℕ) → Tree → Bool
    is_formula bound (atom positive pattern) = is_pattern task params bound pattern
    is_formula bound (equality positive left right) = is_known task params bound left && is_known task params bound right
    is_formula bound (negation tree) = is_formula bound tree
    is_formula bound (conjunction parts) = are_formulas bound parts
    is_formula bound (disjunction parts) = are_formulas bound parts
    is_formula bound (implication premise conclusion) = is_formula bound premise && is_formula bound conclusion
    is_formula bound (exists groups body) = are_variables task.parents (variable_types groups) && is_formula (bound ++ variable_types groups) body
    is_formula bound (for_all groups body) = are_variables task.parents (variable_types groups) && is_formula (bound ++ variable_types groups) body

    -- the same for each of several formulas
    pub are_formulas : List (List ℕ) → Parts → Bool
    are_formulas bound no_parts = true
    are_formulas bound (part tree parts) = is_formula bound tree && are_formulas bound parts

  unfoldable mutual
    -- whether the atoms of an effect are patterns of the task, its conditions formulas of the task, and its quantifiers have variables of the task's types
    pub is_effect : List (List ℕ) → EffectTree → Bool
    is_effect bound (change positive pattern) = is_pattern task params bound pattern
    is_effect bound (joint parts) = are_effects bound parts
    is_effect bound (conditional condition effect) = is_formula bound condition && is_effect bound effect
    is_effect bound (universal groups effect) = are_variables task.parents (variable_types groups) && is_effect (bound ++ variable_types groups) effect

    -- the same for each of several effects
    pub are_effects : List (List ℕ) → EffectParts → Bool
    are_effects bound no_effects = true
    are_effects bound (effect_part effect parts) = is_effect bound effect && are_effects bound parts

-- whether an atom has a declared predicate, and objects that fit its arguments
unfoldable pub is_atom : TaskParts → Atom → Bool
is_atom task fact =
    are_fitting task.parents (map (λ object. term_types task.objects [] [] (Object object)) fact.args) (slice_get (values_of task.preds) fact.pred)

-- whether an action's parameters have types, and its formulas, patterns and effects are those of the task
unfoldable pub is_action : TaskParts → Action → Bool
is_action task action =
    are_variables task.parents action.params
    && (list_all (is_formula task action.params []) action.pre
    && (list_all (is_pattern task action.params []) action.add
    && (list_all (is_pattern task action.params []) action.del
    && list_all (is_effect task action.params []) action.effects)))

-- the parts of a task are well formed: every number is in range, every arity right, every atom and pattern fits by the
-- order of types, from every type the chain of parents reaches `object`, names are distinct, and the limits hold
pub record IsWellFormed (task : TaskParts) : Type 0 where
  pub types_form_a_tree : IsTypeTree task.parents
  pub types_named : length task.types ≡ length task.parents
  pub few_types : length task.parents ≤ most_types
  pub few_objects : length task.objects ≤ most_objects
  pub few_predicates : length task.preds ≤ most_predicates
  pub few_actions : length task.actions ≤ most_actions
  pub objects_distinct : IsTrue (are_distinct (keys_of task.objects))
  pub predicates_distinct : IsTrue (are_distinct (keys_of task.preds))
  pub actions_distinct : IsTrue (are_distinct (keys_of task.actions))
  pub objects_typed : IsTrue (list_all (λ type. nat_lt type (length task.parents)) (values_of task.objects))
  pub predicates_typed : IsTrue (list_all (are_variables task.parents) (values_of task.preds))
  pub actions_fit : IsTrue (list_all (is_action task) (values_of task.actions))
  pub initial_atoms_fit : IsTrue (list_all (is_atom task) task.init)
  pub goal_fits : IsTrue (list_all (is_formula task [] []) task.goal)
