-- What fits in a task fits beside more objects, too.

use Rattle.std.proofs.Common.{◌≡◌, ℕ, ◌+◌, ◌<◌, ◌&&◌, Bool, true, nat_eq, List, [], ◌∷◌, ◌++◌, length, map, Option, Some, None, refl, ap, sym, ◌∙◌, arith, length-append}
use Rattle.std.proofs.lemmas.Bool.{and_parts, ltb-true, lt-ltb}
use Rattle.std.proofs.lemmas.List.{length-map, map-append}
use Rattle.std.proofs.lemmas.Option.{slice_get_within}
use Rattle.std.specs.List.{list_all, slice_get, zip}
use Rattle.std.specs.Map.{values_of}
use Rattle.std.specs.Option.{option_map}
use Rattle.formulas.specs.declared.terms.Term.{Term}
use Rattle.formulas.specs.declared.terms.Term.TheVariants.{Param, Bound, Object}
use Rattle.strips_task.specs.declared.actions.Action.{Action}
use Rattle.formulas.specs.declared.terms.Pattern.{Pattern}
use Rattle.formulas.specs.EffectTree.{EffectTree, change, joint, conditional, universal, EffectParts, no_effects, effect_part}
use Rattle.formulas.specs.Tree.{Tree, atom, equality, negation, conjunction, disjunction, implication, exists, for_all, Parts, no_parts, part}
use Rattle.formulas.specs.Variables.{variable_types}
use Rattle.strips_task.specs.declared.tasks.TaskParts.{TaskParts}
use Rattle.strips_task.specs.WellFormed.{are_variables, term_types, is_fitting, are_fitting, is_pattern, is_object, is_known, is_formula, are_formulas, is_effect, are_effects, is_action}
use Rattle.strips_task.proofs.Numbered.{slice_get-more}
use Rattle.pddl_reader.specs.Domain.{DomainValue}
use Rattle.pddl_reader.specs.DomainTables.{bare_task, IsDomain}
use Rattle.pddl_reader.specs.Objects.{Objects}
use Rattle.pddl_reader.specs.Problem.{domain_over}
use Rattle.pddl_reader.proofs.KeptObjects.{AreObjects, IsFront}

-- a weaker test passes, too
pub list_all-weaker : {A : Type 0} (p q : A → Bool) → ((x : A) → p x ≡ true → q x ≡ true) → (xs : List A) → list_all p xs ≡ true → list_all q xs ≡ true
list_all-weaker p q weaker [] h = refl
list_all-weaker p q weaker (x ∷ xs) h =
    let parts = and_parts (p x) (list_all p xs) h in
    rw (weaker x parts.0, list_all-weaker p q weaker xs parts.1) refl

fitting_weaker : (parents : List ℕ) (f g : Option (List ℕ)) (index : List ℕ) → ((types : List ℕ) → f ≡ Some types → g ≡ Some types) →
    is_fitting parents f index ≡ true → is_fitting parents g index ≡ true
unfolding is_fitting
fitting_weaker parents None g index more h = cc
fitting_weaker parents (Some types) g index more h = rw (more types refl) h

terms_weaker : (parents : List ℕ) (f g : Term → Option (List ℕ)) → ((t : Term) (types : List ℕ) → f t ≡ Some types → g t ≡ Some types) → (terms : List Term) (indexes : List (List ℕ)) →
    list_all (λ p. is_fitting parents p.0 p.1) (zip (map f terms) indexes) ≡ true → list_all (λ p. is_fitting parents p.0 p.1) (zip (map g terms) indexes) ≡ true
terms_weaker parents f g more [] indexes h = refl
terms_weaker parents f g more (t ∷ ts) [] h = refl
terms_weaker parents f g more (t ∷ ts) (p ∷ ps) h =
    let parts = and_parts (is_fitting parents (f t) p) (list_all (λ p. is_fitting parents p.0 p.1) (zip (map f ts) ps)) h in
    rw (fitting_weaker parents (f t) (g t) p (more t) parts.0, terms_weaker parents f g more ts ps parts.1) refl

are_fitting-weaker : (parents : List ℕ) (f g : Term → Option (List ℕ)) → ((t : Term) (types : List ℕ) → f t ≡ Some types → g t ≡ Some types) → (terms : List Term) (found : Option (List (List ℕ))) →
    are_fitting parents (map f terms) found ≡ true → are_fitting parents (map g terms) found ≡ true
unfolding are_fitting
are_fitting-weaker parents f g more terms None h = cc
are_fitting-weaker parents f g more terms (Some indexes) h =
    let parts = and_parts (nat_eq (length (map f terms)) (length indexes)) (list_all (λ p. is_fitting parents p.0 p.1) (zip (map f terms) indexes)) h in
    let same : length (map g terms) ≡ length (map f terms) = length-map terms g ∙ sym (length-map terms f) in
    rw (same, parts.0, terms_weaker parents f g more terms indexes parts.1) refl

-- the task with other objects
abbrev over : TaskParts → Objects → TaskParts
over task objects = record task { objects = objects }

object_stays : (task : TaskParts) (objects : Objects) → IsFront task.objects objects → (n type : ℕ) →
    slice_get (values_of task.objects) n ≡ Some type → slice_get (values_of objects) n ≡ Some type
object_stays task objects front n type h =
    rw (front.1, map-append (λ (e : List ℕ × ℕ). e.1) task.objects front.0, slice_get-more (values_of task.objects) (values_of front.0) n (slice_get_within (values_of task.objects) n type h)) h

module _ (task : TaskParts) (objects : Objects) (front : IsFront task.objects objects) (params : List (List ℕ)) where
  types_stay : (bound : List (List ℕ)) (t : Term) (types : List ℕ) → term_types task.objects params bound t ≡ Some types → term_types objects params bound t ≡ Some types
  unfolding term_types
  types_stay bound (Param index) types h = h
  types_stay bound (Bound level) types h = h
  types_stay bound (Object n) types h = by (slice_get (values_of task.objects) n) (object_stays task objects front n) h
    where
      by : (found : Option ℕ) → ((type : ℕ) → found ≡ Some type → slice_get (values_of objects) n ≡ Some type) → option_map (λ type. type ∷ []) found ≡ Some types →
          option_map (λ type. type ∷ []) (slice_get (values_of objects) n) ≡ Some types
      by None stays e = cc
      by (Some type) stays e = rw (stays type refl) e

  pattern_stays : (bound : List (List ℕ)) (p : Pattern) → is_pattern task params bound p ≡ true → is_pattern (over task objects) params bound p ≡ true
  unfolding is_pattern
  pattern_stays bound p h =
      are_fitting-weaker task.parents (term_types task.objects params bound) (term_types objects params bound) (types_stay bound) p.terms
      (slice_get (values_of task.preds) p.pred) h

  known_stays : (bound : List (List ℕ)) (t : Term) → is_known task params bound t ≡ true → is_known (over task objects) params bound t ≡ true
  unfolding is_known is_object
  known_stays bound (Param index) h = h
  known_stays bound (Bound level) h = h
  known_stays bound (Object n) h =
      let within : n < length task.objects = ltb-true n (length task.objects) h in
      let more : length objects ≡ length task.objects + length front.0 = ap length front.1 ∙ length-append task.objects front.0 in
      lt-ltb n (length objects) (omega arith)

  both_stay : (a b c d : Bool) → (a ≡ true → c ≡ true) → (b ≡ true → d ≡ true) → (a && b) ≡ true → (c && d) ≡ true
  both_stay a b c d first second h = let parts = and_parts a b h in rw (first parts.0, second parts.1) refl

  mutual
    unfolding is_formula

    formula_stays : (bound : List (List ℕ)) (tree : Tree) → is_formula task params bound tree ≡ true → is_formula (over task objects) params bound tree ≡ true
    formula_stays bound (atom positive pattern) h = pattern_stays bound pattern h
    formula_stays bound (equality positive left right) h =
        both_stay (is_known task params bound left) (is_known task params bound right) (is_known (over task objects) params bound left)
        (is_known (over task objects) params bound right) (known_stays bound left) (known_stays bound right) h
    formula_stays bound (negation tree) h = formula_stays bound tree h
    formula_stays bound (conjunction parts) h = formulas_stay bound parts h
    formula_stays bound (disjunction parts) h = formulas_stay bound parts h
    formula_stays bound (implication premise conclusion) h =
        both_stay (is_formula task params bound premise) (is_formula task params bound conclusion) (is_formula (over task objects) params bound premise)
        (is_formula (over task objects) params bound conclusion) (formula_stays bound premise) (formula_stays bound conclusion) h
    formula_stays bound (exists groups body) h =
        let types = variable_types groups in
        both_stay (are_variables task.parents types) (is_formula task params (bound ++ types) body) (are_variables task.parents types)
        (is_formula (over task objects) params (bound ++ types) body) (λ e. e) (formula_stays (bound ++ types) body) h
    formula_stays bound (for_all groups body) h =
        let types = variable_types groups in
        both_stay (are_variables task.parents types) (is_formula task params (bound ++ types) body) (are_variables task.parents types)
        (is_formula (over task objects) params (bound ++ types) body) (λ e. e) (formula_stays (bound ++ types) body) h

    formulas_stay : (bound : List (List ℕ)) (parts : Parts) → are_formulas task params bound parts ≡ true → are_formulas (over task objects) params bound parts ≡ true
    formulas_stay bound no_parts h = refl
    formulas_stay bound (part tree parts) h =
        both_stay (is_formula task params bound tree) (are_formulas task params bound parts) (is_formula (over task objects) params bound tree)
        (are_formulas (over task objects) params bound parts) (formula_stays bound tree) (formulas_stay bound parts) h

  mutual
    unfolding is_effect

    effect_stays : (bound : List (List ℕ)) (effect : EffectTree) → is_effect task params bound effect ≡ true → is_effect (over task objects) params bound effect ≡ true
    effect_stays bound (change positive pattern) h = pattern_stays bound pattern h
    effect_stays bound (joint parts) h = effects_stay bound parts h
    effect_stays bound (conditional condition effect) h =
        both_stay (is_formula task params bound condition) (is_effect task params bound effect) (is_formula (over task objects) params bound condition)
        (is_effect (over task objects) params bound effect) (formula_stays bound condition) (effect_stays bound effect) h
    effect_stays bound (universal groups effect) h =
        let types = variable_types groups in
        both_stay (are_variables task.parents types) (is_effect task params (bound ++ types) effect) (are_variables task.parents types)
        (is_effect (over task objects) params (bound ++ types) effect) (λ e. e) (effect_stays (bound ++ types) effect) h

    effects_stay : (bound : List (List ℕ)) (parts : EffectParts) → are_effects task params bound parts ≡ true → are_effects (over task objects) params bound parts ≡ true
    effects_stay bound no_effects h = refl
    effects_stay bound (effect_part effect parts) h =
        both_stay (is_effect task params bound effect) (are_effects task params bound parts) (is_effect (over task objects) params bound effect)
        (are_effects (over task objects) params bound parts) (effect_stays bound effect) (effects_stay bound parts) h

pub action_stays : (task : TaskParts) (objects : Objects) → IsFront task.objects objects → (a : Action) → is_action task a ≡ true → is_action (over task objects) a ≡ true
unfolding is_action
action_stays task objects front a h =
    let params = a.params in
    let typed = and_parts (are_variables task.parents params) _ h in
    let pre = and_parts (list_all (is_formula task params []) a.pre) _ typed.1 in
    let add = and_parts (list_all (is_pattern task params []) a.add) _ pre.1 in
    let del = and_parts (list_all (is_pattern task params []) a.del) (list_all (is_effect task params []) a.effects) add.1 in
    rw (
      typed.0,
      list_all-weaker (is_formula task params []) (is_formula (over task objects) params []) (formula_stays task objects front params []) a.pre pre.0,
      list_all-weaker (is_pattern task params []) (is_pattern (over task objects) params []) (pattern_stays task objects front params []) a.add add.0,
      list_all-weaker (is_pattern task params []) (is_pattern (over task objects) params []) (pattern_stays task objects front params []) a.del del.0,
      list_all-weaker (is_effect task params []) (is_effect (over task objects) params []) (effect_stays task objects front params []) a.effects del.1,
    ) refl

-- a domain is well formed with more objects, too
pub domain_stays : (domain : DomainValue) (objects : Objects) → IsDomain domain → IsFront domain.objects objects → AreObjects (length domain.parents) objects →
    IsDomain (domain_over domain objects)
domain_stays domain objects is front kept = record {
  fits = record {
    types_form_a_tree = is.fits.types_form_a_tree;
    types_named = is.fits.types_named;
    few_types = is.fits.few_types;
    few_objects = kept.few;
    few_predicates = is.fits.few_predicates;
    few_actions = is.fits.few_actions;
    objects_distinct = kept.distinct;
    predicates_distinct = is.fits.predicates_distinct;
    actions_distinct = is.fits.actions_distinct;
    objects_typed = kept.typed;
    predicates_typed = is.fits.predicates_typed;
    actions_fit =
        list_all-weaker (is_action (bare_task domain)) (is_action (bare_task (domain_over domain objects))) (action_stays (bare_task domain) objects front) (values_of domain.actions)
        is.fits.actions_fit;
    initial_atoms_fit = refl;
    goal_fits = refl;
  };
  types_named = is.types_named;
  few_functions = is.few_functions;
}
