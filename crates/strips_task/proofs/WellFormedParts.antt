-- What the tests of well-formedness say of each part.

use Rattle.std.proofs.Common.{◌≡◌, ℕ, ◌<◌, ◌≤◌, zero, suc, Bool, true, nat_eq, nat_lt, nat_le, List, [], ◌∷◌, ◌++◌, ◌+◌, length, map, All, refl, ap, subst, sym, ◌∙◌, arith, slice_get, Option, None, Some, true≢false, ◌↔◌, IsTrue}
use Rattle.std.proofs.lemmas.Bool.{ltb-true, leb-true, eqb-true}
use Rattle.std.proofs.lemmas.List.{length-append}
use Rattle.std.proofs.lemmas.List.Sums.{AllPass-from_list_all}
use Rattle.std.proofs.lemmas.Option.{slice_get_within}
use Rattle.std.specs.List.{list_all, zip}
use Rattle.std.specs.Option.{option_map}
use Rattle.std.specs.Map.{values_of}
use Rattle.formulas.specs.declared.terms.Term.{Term}
use Rattle.formulas.specs.declared.terms.Term.TheVariants.{Param, Bound, Object}
use Rattle.formulas.specs.declared.terms.Pattern.{Pattern}
use Rattle.formulas.specs.EffectTree.{EffectTree, change, joint, conditional, universal, EffectParts, no_effects, effect_part}
use Rattle.formulas.specs.Tree.{Tree, atom, equality, negation, conjunction, disjunction, implication, exists, for_all, Parts, no_parts, part}
use Rattle.formulas.specs.Variables.{variable_types}
use Rattle.formulas.specs.Within.{IsTermWithin, IsPatternWithin, IsWithin, AreWithin, IsEffectWithin, AreEffectsWithin}
use Rattle.strips_task.specs.declared.actions.Action.{Action}
use Rattle.strips_task.specs.declared.tasks.TaskParts.{TaskParts}
use Rattle.strips_task.specs.Types.{IsBelow, IsTypeTree, is_below}
use Rattle.strips_task.specs.WellFormed.{are_alternatives, are_variables, term_types, is_fitting, are_fitting, is_pattern, is_known, is_formula, are_formulas, is_effect, are_effects, is_action}
use Rattle.strips_task.specs.Within.{IsActionWithin}
use Rattle.strips_task.proofs.AtomEquality.{both_hold}
use Rattle.strips_task.proofs.TypeTrees.{below_from_within, within_from_below}

module _ {A : Type 0} (p : A → Bool) where
  -- the item at an index passes the test that all pass
  pub passes_at : (xs : List A) (k : ℕ) (x : A) → list_all p xs ≡ true → slice_get xs k ≡ Some x → p x ≡ true
  passes_at [] k x h e = cc
  passes_at (y ∷ ys) zero x h e = let same : y ≡ x = cc in ap p (sym same) ∙ (both_hold (p y) (list_all p ys) h).0
  passes_at (y ∷ ys) (suc k) x h e = passes_at ys k x (both_hold (p y) (list_all p ys) h).1 e

-- the value of the entry at an index
pub value_at : {K V : Type 0} (entries : List (K × V)) (n : ℕ) (name : K) (value : V) → slice_get entries n ≡ Some (name, value)
    → slice_get (values_of entries) n ≡ Some value
value_at [] n name value e = cc
value_at (entry ∷ entries) zero name value e =
    ap (λ o. option_map (λ p. p.1) o) e
value_at (entry ∷ entries) (suc n) name value e = value_at entries n name value e

-- what holds of the first item and of the others holds of all
pub all_cons : {A : Type 0} (P : A → Type 0) (x : A) (xs : List A) → P x → All P xs → All P (x ∷ xs)
all_cons P x xs here rest = by
  where
    by : All P (x ∷ xs)
    by zero d lt = here
    by (suc k) d lt = rest k d (let n : suc k < suc (length xs) = lt in omega arith)

-- what each item's test says holds of each
pub all_from_tests : {A : Type 0} (p : A → Bool) (P : A → Type 0) → ((x : A) → p x ≡ true → P x) → (xs : List A) → list_all p xs ≡ true → All P xs
all_from_tests p P says xs h = λ k d lt. says _ (AllPass-from_list_all p xs h k d lt)

-- the alternatives of variables are types
pub variables_known : (parents : List ℕ) (variables : List (List ℕ)) → are_variables parents variables ≡ true
    → (length variables ≤ 32) × All (All (λ type. type < length parents)) variables
unfolding are_variables are_alternatives
variables_known parents variables h =
    let parts = both_hold (nat_le (length variables) 32) (list_all (are_alternatives parents) variables) h in (
      leb-true (length variables) 32 parts.0,
      all_from_tests (are_alternatives parents) (All (λ type. type < length parents))
          (λ types e.
          all_from_tests (λ type. nat_lt type (length parents)) (λ type. type < length parents) (λ type t. ltb-true type (length parents) t) types
          (both_hold (nat_le (length types) 32) (list_all (λ type. nat_lt type (length parents)) types) e).1)
          variables parts.1,
    )

module _ (task : TaskParts) (params bound : List (List ℕ)) where
  -- a parameter that fits is one of the action's, and a variable one that is bound
  term_within : (term : Term) (indexes : List ℕ) → is_fitting task.parents (term_types task.objects params bound term) indexes ≡ true → IsTermWithin (length params) (length bound) term
  unfolding term_types is_fitting
  term_within (Object object) indexes h = tt
  term_within (Param index) indexes h = by (slice_get params index) refl
    where
      by : (r : Option (List ℕ)) → slice_get params index ≡ r → index < length params
      by None e = absurd (true≢false (sym h ∙ ap (λ o. is_fitting task.parents o indexes) e))
      by (Some types) e = slice_get_within params index types e
  term_within (Bound level) indexes h = by (slice_get bound level) refl
    where
      by : (r : Option (List ℕ)) → slice_get bound level ≡ r → level < length bound
      by None e = absurd (true≢false (sym h ∙ ap (λ o. is_fitting task.parents o indexes) e))
      by (Some types) e = slice_get_within bound level types e

  terms_within : (terms : List Term) (indexes : List (List ℕ)) → length (map (term_types task.objects params bound) terms) ≡ length indexes
      → list_all (λ p. is_fitting task.parents p.0 p.1) (zip (map (term_types task.objects params bound) terms) indexes) ≡ true
      → All (IsTermWithin (length params) (length bound)) terms
  terms_within [] indexes e h = λ k d lt. absurd (omega arith)
  terms_within (term ∷ terms) [] e h = absurd (omega (arith, e))
  terms_within (term ∷ terms) (index ∷ indexes) e h =
      let parts = both_hold (is_fitting task.parents (term_types task.objects params bound term) index) (list_all (λ p. is_fitting task.parents p.0 p.1) (zip (map (term_types task.objects params bound) terms) indexes)) h in
      all_cons (IsTermWithin (length params) (length bound)) term terms (term_within term index parts.0)
      (terms_within terms indexes (let n : suc (length (map (term_types task.objects params bound) terms)) ≡ suc (length indexes) = e in omega arith) parts.1)

  pattern_within : (pattern : Pattern) → is_pattern task params bound pattern ≡ true → IsPatternWithin (length params) (length bound) pattern
  unfolding is_pattern are_fitting
  pattern_within pattern h = by (slice_get (values_of task.preds) pattern.pred) refl
    where
      by : (r : Option (List (List ℕ))) → slice_get (values_of task.preds) pattern.pred ≡ r → IsPatternWithin (length params) (length bound) pattern
      by None e = absurd (true≢false (sym h ∙ ap (are_fitting task.parents (map (term_types task.objects params bound) pattern.terms)) e))
      by (Some indexes) e =
          let fit = sym (ap (are_fitting task.parents (map (term_types task.objects params bound) pattern.terms)) e) ∙ h in
          let parts = both_hold (nat_eq (length (map (term_types task.objects params bound) pattern.terms)) (length indexes)) (list_all (λ p. is_fitting task.parents p.0 p.1) (zip (map (term_types task.objects params bound) pattern.terms) indexes)) fit in
          terms_within pattern.terms indexes (eqb-true (length (map (term_types task.objects params bound) pattern.terms)) (length indexes) parts.0) parts.1

  -- a side of an equality that is known is one of the action's parameters, a variable that is bound or an object
  side_within : (term : Term) → is_known task params bound term ≡ true → IsTermWithin (length params) (length bound) term
  unfolding is_known
  side_within (Object object) h = tt
  side_within (Param index) h = ltb-true index (length params) h
  side_within (Bound level) h = ltb-true level (length bound) h

module _ (task : TaskParts) (params : List (List ℕ)) where
  extended : (bound types : List (List ℕ)) (body : Tree) → IsWithin (length params) (length (bound ++ types)) body → IsWithin (length params) (length bound + length types) body
  extended bound types body within = subst (λ count. IsWithin (length params) count body) (length-append bound types) within

  mutual
    unfolding is_formula

    -- a formula that passes the test names the action's parameters, and the variables that are bound where it names them
    pub formula_within : (bound : List (List ℕ)) (tree : Tree) → is_formula task params bound tree ≡ true → IsWithin (length params) (length bound) tree
    formula_within bound (atom positive pattern) h = pattern_within task params bound pattern h
    formula_within bound (equality positive left right) h =
        let sides = both_hold (is_known task params bound left) (is_known task params bound right) h in
        (side_within task params bound left sides.0, side_within task params bound right sides.1)
    formula_within bound (negation tree) h = formula_within bound tree h
    formula_within bound (conjunction parts) h = formulas_within bound parts h
    formula_within bound (disjunction parts) h = formulas_within bound parts h
    formula_within bound (implication premise conclusion) h =
        let both = both_hold (is_formula task params bound premise) (is_formula task params bound conclusion) h in
        (formula_within bound premise both.0, formula_within bound conclusion both.1)
    formula_within bound (exists groups body) h =
        let both = both_hold (are_variables task.parents (variable_types groups)) (is_formula task params (bound ++ variable_types groups) body) h in
        extended bound (variable_types groups) body (formula_within (bound ++ variable_types groups) body both.1)
    formula_within bound (for_all groups body) h =
        let both = both_hold (are_variables task.parents (variable_types groups)) (is_formula task params (bound ++ variable_types groups) body) h in
        extended bound (variable_types groups) body (formula_within (bound ++ variable_types groups) body both.1)

    formulas_within : (bound : List (List ℕ)) (parts : Parts) → are_formulas task params bound parts ≡ true → AreWithin (length params) (length bound) parts
    formulas_within bound no_parts h = tt
    formulas_within bound (part tree parts) h =
        let both = both_hold (is_formula task params bound tree) (are_formulas task params bound parts) h in
        (formula_within bound tree both.0, formulas_within bound parts both.1)

  mutual
    unfolding is_effect

    -- and so does an effect that passes the test
    pub effect_within : (bound : List (List ℕ)) (effect : EffectTree) → is_effect task params bound effect ≡ true → IsEffectWithin (length params) (length bound) effect
    effect_within bound (change positive pattern) h = pattern_within task params bound pattern h
    effect_within bound (joint parts) h = effects_within bound parts h
    effect_within bound (conditional condition effect) h =
        let both = both_hold (is_formula task params bound condition) (is_effect task params bound effect) h in
        (formula_within bound condition both.0, effect_within bound effect both.1)
    effect_within bound (universal groups effect) h =
        let both = both_hold (are_variables task.parents (variable_types groups)) (is_effect task params (bound ++ variable_types groups) effect) h in
        subst (λ count. IsEffectWithin (length params) count effect) (length-append bound (variable_types groups)) (effect_within (bound ++ variable_types groups) effect both.1)

    effects_within : (bound : List (List ℕ)) (parts : EffectParts) → are_effects task params bound parts ≡ true → AreEffectsWithin (length params) (length bound) parts
    effects_within bound no_effects h = tt
    effects_within bound (effect_part effect parts) h =
        let both = both_hold (is_effect task params bound effect) (are_effects task params bound parts) h in
        (effect_within bound effect both.0, effects_within bound parts both.1)

-- an action that passes the test speaks of its own parameters
pub action_within : (task : TaskParts) (action : Action) → is_action task action ≡ true → IsActionWithin (length task.parents) action
unfolding is_action
action_within task action h =
    let params = both_hold (are_variables task.parents action.params) _ h in
    let pre = both_hold (list_all (is_formula task action.params []) action.pre) _ params.1 in
    let add = both_hold (list_all (is_pattern task action.params []) action.add) _ pre.1 in
    let del = both_hold (list_all (is_pattern task action.params []) action.del) _ add.1 in
    let known = variables_known task.parents action.params params.0 in
    record {
      few_params = known.0;
      params_known = known.1;
      pre_within = all_from_tests (is_formula task action.params []) (IsWithin (length action.params) 0) (formula_within task action.params []) action.pre pre.0;
      add_within = all_from_tests (is_pattern task action.params []) (IsPatternWithin (length action.params) 0) (pattern_within task action.params []) action.add add.0;
      del_within = all_from_tests (is_pattern task action.params []) (IsPatternWithin (length action.params) 0) (pattern_within task action.params []) action.del del.0;
      effects_within = all_from_tests (is_effect task action.params []) (IsEffectWithin (length action.params) 0) (effect_within task action.params []) action.effects del.1;
    }

-- in a tree of types the test decides the order
pub is_below_decides : (parents : List ℕ) → IsTypeTree parents → (sub sup : ℕ) → sub < length parents
    → IsTrue (is_below parents sub sup) ↔ IsBelow parents sub sup
unfolding is_below
is_below_decides parents tree sub sup lt = (
  below_from_within parents (length parents) sub sup,
  within_from_below parents tree.has_object tree.object_on_top (λ i known. tree.parents_known i 0 known) sub sup lt (tree.below_object sub lt),
)

-- formulas that pass the test without parameters name none
pub goal_within : (task : TaskParts) (goal : List Tree) → list_all (is_formula task [] []) goal ≡ true → All (IsWithin 0 0) goal
goal_within task goal h = all_from_tests (is_formula task [] []) (IsWithin 0 0) (formula_within task [] []) goal h
