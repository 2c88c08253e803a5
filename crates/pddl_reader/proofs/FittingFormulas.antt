-- Formulas and effects that syntax stands for fit in their task.

use Rattle.std.proofs.Common.{◌≡◌, ℕ, ◌++◌, ◌&&◌, Bool, true, List, [], ◌∷◌, length, Option, Some, None, refl, subst, ap, arith, ◌∙◌, length-append}
use Rattle.std.specs.Option.{option_map}
use Rattle.formulas.specs.declared.terms.Pattern.{Pattern}
use Rattle.formulas.specs.declared.terms.Term.{Term}
use Rattle.formulas.specs.declared.variables.VariableGroup as kept
use Rattle.formulas.specs.EffectTree.{EffectTree, change, joint, conditional, universal, effect_parts_of}
use Rattle.formulas.specs.Tree.{Tree, parts_of}
use Rattle.formulas.specs.Tree as tree
use Rattle.formulas.specs.Variables.{variable_types}
use Rattle.strips_task.specs.declared.tasks.TaskParts.{TaskParts}
use Rattle.strips_task.specs.WellFormed.{are_variables, is_pattern, is_known, is_formula, are_formulas, is_effect, are_effects}
use Rattle.pddl_syntax.specs.Optional.{followed_by}
use Rattle.pddl_syntax.specs.Syntax.{VariableGroup, FormulaForm, atom_formula, equality_formula, negation, conjunction, disjunction, implication, exists, for_all, FormulaForms, no_formulas, formula_then, EffectForm, atom_effect, increase_effect, joint_effect, conditional_effect, universal_effect, EffectForms, no_effects, effect_then}
use Rattle.pddl_reader.specs.Conditions.{equality_by, implication_by, tree_meant, trees_meant}
use Rattle.pddl_reader.specs.Declarations.{pattern_of, term_named}
use Rattle.pddl_reader.specs.Effects.{conditional_by, effect_meant, effects_meant}
use Rattle.pddl_reader.specs.Scopes.{Scope, BoundVariables, scope_within, bound_by, quantified}
use Rattle.pddl_reader.specs.Variables.{TypedVariables}
use Rattle.pddl_reader.proofs.FittingAtoms.{known_of, pattern_fits}
use Rattle.pddl_reader.proofs.KeptQuantifiers.{all_bound, bound_variables}
use Rattle.pddl_reader.proofs.KnownTerms.{IsPaired, IsScope, option_map_some, term_known}

-- the parts of what a quantifier gives
record QuantifiedBy {A : Type 0} (scope : Scope) (own : Option BoundVariables) (body : Scope → Option A) (binding : List kept.VariableGroup × A) : Type 0 where
  variables : BoundVariables
  bound : own ≡ Some variables
  meant : body (scope_within scope variables.declared) ≡ Some binding.1
  groups : variables.groups ≡ binding.0

quantified_by : {A : Type 0} (scope : Scope) (own : Option BoundVariables) (body : Scope → Option A) (binding : List kept.VariableGroup × A) → quantified scope own body ≡ Some binding →
    QuantifiedBy scope own body binding
unfolding quantified
quantified_by scope None body binding h = cc
quantified_by {A} scope (Some own) body binding h =
    let found = option_map_some (λ (meant : A). (own.groups, meant)) (body (scope_within scope own.declared)) binding h in
    record {
      variables = own;
      bound = refl;
      meant = found.1 ∙ ap (λ (b : List kept.VariableGroup × A). Some b.1) found.2;
      groups = ap (λ (b : List kept.VariableGroup × A). b.0) found.2;
    }

-- inside a quantifier each variable has types, too
scope_inside : (scope : Scope) (own : TypedVariables) → IsScope scope → IsPaired own → IsScope (scope_within scope own)
unfolding scope_within
scope_inside scope own is paired = record {
  parameters = is.parameters;
  bound = rw (length-append, length-append) (omega (arith, is.bound, paired));
}

module _ (task : TaskParts) (types : List (List ℕ)) (typed : length types ≡ length task.parents) where
  -- what a quantifier gives passes a test that its body passes in the scope of its variables
  quantified_fits : {A : Type 0} (test : List (List ℕ) → List (List ℕ) → A → Bool) (scope : Scope) (groups : List VariableGroup) (body : Scope → Option A)
      (binding : List kept.VariableGroup × A) → IsScope scope →
      ((inner : Scope) (x : A) → IsScope inner → body inner ≡ Some x → test inner.parameters.types inner.bound.types x ≡ true) →
      quantified scope (bound_by types groups) body ≡ Some binding →
      (are_variables task.parents (variable_types binding.0) && test scope.parameters.types (scope.bound.types ++ variable_types binding.0) binding.1) ≡ true
  unfolding scope_within
  quantified_fits test scope groups body binding is fits h =
      let by = quantified_by scope (bound_by types groups) body binding h in
      let own = by.variables in
      let all = all_bound task.parents types groups own typed by.bound in
      let fit : test scope.parameters.types (scope.bound.types ++ own.declared.types) binding.1 ≡ true =
      fits (scope_within scope own.declared) binding.1 (scope_inside scope own.declared is all.typed.paired) by.meant in
      rw (← by.groups, bound_variables task.parents types groups own typed by.bound, ← all.grouped, fit) refl

  module _ (params bound : List (List ℕ)) where
    atom_fits_by : (positive : Bool) (pattern : Option Pattern) (t : Tree) → ((p : Pattern) → pattern ≡ Some p → is_pattern task params bound p ≡ true) →
        option_map (tree.atom positive) pattern ≡ Some t → is_formula task params bound t ≡ true
    unfolding is_formula
    atom_fits_by positive pattern t fits h =
        let found = option_map_some (tree.atom positive) pattern t h in
        subst (λ x. is_formula task params bound x ≡ true) found.2 (fits found.0 found.1)

    equality_fits_by : (positive : Bool) (left right : Option Term) (t : Tree) → ((x : Term) → left ≡ Some x → is_known task params bound x ≡ true) →
        ((x : Term) → right ≡ Some x → is_known task params bound x ≡ true) → equality_by positive left right ≡ Some t → is_formula task params bound t ≡ true
    unfolding equality_by is_formula
    equality_fits_by positive None right t lefts rights h = cc
    equality_fits_by positive (Some l) None t lefts rights h = cc
    equality_fits_by positive (Some l) (Some r) t lefts rights h =
        let is : tree.equality positive l r ≡ t = cc in
        subst (λ x. is_formula task params bound x ≡ true) is (rw (lefts l refl, rights r refl) refl)

    implication_fits_by : (premise conclusion : Option Tree) (t : Tree) → ((x : Tree) → premise ≡ Some x → is_formula task params bound x ≡ true) →
        ((x : Tree) → conclusion ≡ Some x → is_formula task params bound x ≡ true) → implication_by premise conclusion ≡ Some t → is_formula task params bound t ≡ true
    unfolding implication_by is_formula
    implication_fits_by None conclusion t first second h = cc
    implication_fits_by (Some p) None t first second h = cc
    implication_fits_by (Some p) (Some c) t first second h =
        let is : tree.implication p c ≡ t = cc in
        subst (λ x. is_formula task params bound x ≡ true) is (rw (first p refl, second c refl) refl)

    formulas_fit_by : (first : Option Tree) (others : Option (List Tree)) (ts : List Tree) → ((x : Tree) → first ≡ Some x → is_formula task params bound x ≡ true) →
        ((xs : List Tree) → others ≡ Some xs → are_formulas task params bound (parts_of xs) ≡ true) → followed_by first others ≡ Some ts →
        are_formulas task params bound (parts_of ts) ≡ true
    unfolding followed_by is_formula
    formulas_fit_by None others ts one rest h = cc
    formulas_fit_by (Some x) None ts one rest h = cc
    formulas_fit_by (Some x) (Some xs) ts one rest h =
        let is : x ∷ xs ≡ ts = cc in
        subst (λ list. are_formulas task params bound (parts_of list) ≡ true) is (rw (one x refl, rest xs refl) refl)

    conditional_fits_by : (condition : Option Tree) (effect : Option EffectTree) (x : EffectTree) → ((t : Tree) → condition ≡ Some t → is_formula task params bound t ≡ true) →
        ((e : EffectTree) → effect ≡ Some e → is_effect task params bound e ≡ true) → conditional_by condition effect ≡ Some x → is_effect task params bound x ≡ true
    unfolding conditional_by is_effect
    conditional_fits_by None effect x first second h = cc
    conditional_fits_by (Some t) None x first second h = cc
    conditional_fits_by (Some t) (Some e) x first second h =
        let is : conditional t e ≡ x = cc in
        subst (λ y. is_effect task params bound y ≡ true) is (rw (first t refl, second e refl) refl)

    change_fits_by : (positive : Bool) (pattern : Option Pattern) (x : EffectTree) → ((p : Pattern) → pattern ≡ Some p → is_pattern task params bound p ≡ true) →
        option_map (change positive) pattern ≡ Some x → is_effect task params bound x ≡ true
    unfolding is_effect
    change_fits_by positive pattern x fits h =
        let found = option_map_some (change positive) pattern x h in
        subst (λ y. is_effect task params bound y ≡ true) found.2 (fits found.0 found.1)

    effects_fit_by : (first : Option EffectTree) (others : Option (List EffectTree)) (es : List EffectTree) → ((x : EffectTree) → first ≡ Some x → is_effect task params bound x ≡ true) →
        ((xs : List EffectTree) → others ≡ Some xs → are_effects task params bound (effect_parts_of xs) ≡ true) → followed_by first others ≡ Some es →
        are_effects task params bound (effect_parts_of es) ≡ true
    unfolding followed_by is_effect
    effects_fit_by None others es one rest h = cc
    effects_fit_by (Some x) None es one rest h = cc
    effects_fit_by (Some x) (Some xs) es one rest h =
        let is : x ∷ xs ≡ es = cc in
        subst (λ list. are_effects task params bound (effect_parts_of list) ≡ true) is (rw (one x refl, rest xs refl) refl)

  mutual
    unfolding tree_meant is_formula

    -- a formula that syntax stands for fits
    pub formula_fits : (scope : Scope) → IsScope scope → (form : FormulaForm) (t : Tree) → tree_meant types (known_of task) scope form ≡ Some t →
        is_formula task scope.parameters.types scope.bound.types t ≡ true
    formula_fits scope is (atom_formula positive atom) t h =
        atom_fits_by scope.parameters.types scope.bound.types positive (pattern_of (known_of task) scope atom) t (pattern_fits task scope atom) h
    formula_fits scope is (equality_formula positive sides) t h =
        equality_fits_by scope.parameters.types scope.bound.types positive (term_named (known_of task) scope sides.left) (term_named (known_of task) scope sides.right) t
        (term_known task scope is sides.left) (term_known task scope is sides.right) h
    formula_fits scope is (negation formula) t h =
        let found = option_map_some tree.negation (tree_meant types (known_of task) scope formula) t h in
        subst (λ x. is_formula task scope.parameters.types scope.bound.types x ≡ true) found.2 (formula_fits scope is formula found.0 found.1)
    formula_fits scope is (conjunction formulas) t h =
        let found = option_map_some (λ ts. tree.conjunction (parts_of ts)) (trees_meant types (known_of task) scope formulas) t h in
        subst (λ x. is_formula task scope.parameters.types scope.bound.types x ≡ true) found.2 (formulas_fit scope is formulas found.0 found.1)
    formula_fits scope is (disjunction formulas) t h =
        let found = option_map_some (λ ts. tree.disjunction (parts_of ts)) (trees_meant types (known_of task) scope formulas) t h in
        subst (λ x. is_formula task scope.parameters.types scope.bound.types x ≡ true) found.2 (formulas_fit scope is formulas found.0 found.1)
    formula_fits scope is (implication premise conclusion) t h =
        implication_fits_by scope.parameters.types scope.bound.types (tree_meant types (known_of task) scope premise) (tree_meant types (known_of task) scope conclusion) t
        (λ x e. formula_fits scope is premise x e) (λ x e. formula_fits scope is conclusion x e) h
    formula_fits scope is (exists groups body) t h =
        let found = option_map_some (λ (b : List kept.VariableGroup × Tree). tree.exists b.0 b.1) (quantified scope (bound_by types groups) (λ inner. tree_meant types (known_of task) inner body)) t h in
        subst (λ x. is_formula task scope.parameters.types scope.bound.types x ≡ true) found.2
        (quantified_fits (is_formula task) scope groups (λ inner. tree_meant types (known_of task) inner body) found.0 is (λ inner x scoped e. formula_fits inner scoped body x e) found.1)
    formula_fits scope is (for_all groups body) t h =
        let found = option_map_some (λ (b : List kept.VariableGroup × Tree). tree.for_all b.0 b.1) (quantified scope (bound_by types groups) (λ inner. tree_meant types (known_of task) inner body)) t h in
        subst (λ x. is_formula task scope.parameters.types scope.bound.types x ≡ true) found.2
        (quantified_fits (is_formula task) scope groups (λ inner. tree_meant types (known_of task) inner body) found.0 is (λ inner x scoped e. formula_fits inner scoped body x e) found.1)

    formulas_fit : (scope : Scope) → IsScope scope → (forms : FormulaForms) (ts : List Tree) → trees_meant types (known_of task) scope forms ≡ Some ts →
        are_formulas task scope.parameters.types scope.bound.types (parts_of ts) ≡ true
    formulas_fit scope is no_formulas ts h =
        let same : [] ≡ ts = cc in
        subst (λ list. are_formulas task scope.parameters.types scope.bound.types (parts_of list) ≡ true) same refl
    formulas_fit scope is (formula_then form forms) ts h =
        formulas_fit_by scope.parameters.types scope.bound.types (tree_meant types (known_of task) scope form) (trees_meant types (known_of task) scope forms) ts
        (λ x e. formula_fits scope is form x e) (λ xs e. formulas_fit scope is forms xs e) h

  mutual
    unfolding effect_meant is_effect

    -- an effect that syntax stands for fits
    pub effect_fits : (scope : Scope) → IsScope scope → (form : EffectForm) (x : EffectTree) → effect_meant types (known_of task) scope form ≡ Some x →
        is_effect task scope.parameters.types scope.bound.types x ≡ true
    effect_fits scope is (atom_effect positive atom) x h =
        change_fits_by scope.parameters.types scope.bound.types positive (pattern_of (known_of task) scope atom) x (pattern_fits task scope atom) h
    effect_fits scope is (increase_effect amount) x h = cc
    effect_fits scope is (joint_effect effects) x h =
        let found = option_map_some (λ es. joint (effect_parts_of es)) (effects_meant types (known_of task) scope effects) x h in
        subst (λ y. is_effect task scope.parameters.types scope.bound.types y ≡ true) found.2 (effects_fit scope is effects found.0 found.1)
    effect_fits scope is (conditional_effect condition effect) x h =
        conditional_fits_by scope.parameters.types scope.bound.types (tree_meant types (known_of task) scope condition) (effect_meant types (known_of task) scope effect) x
        (λ t e. formula_fits scope is condition t e) (λ y e. effect_fits scope is effect y e) h
    effect_fits scope is (universal_effect groups effect) x h =
        let found = option_map_some (λ (b : List kept.VariableGroup × EffectTree). universal b.0 b.1) (quantified scope (bound_by types groups) (λ inner. effect_meant types (known_of task) inner effect)) x h in
        subst (λ y. is_effect task scope.parameters.types scope.bound.types y ≡ true) found.2
        (quantified_fits (is_effect task) scope groups (λ inner. effect_meant types (known_of task) inner effect) found.0 is (λ inner y scoped e. effect_fits inner scoped effect y e) found.1)

    effects_fit : (scope : Scope) → IsScope scope → (forms : EffectForms) (es : List EffectTree) → effects_meant types (known_of task) scope forms ≡ Some es →
        are_effects task scope.parameters.types scope.bound.types (effect_parts_of es) ≡ true
    effects_fit scope is no_effects es h =
        let same : [] ≡ es = cc in
        subst (λ list. are_effects task scope.parameters.types scope.bound.types (effect_parts_of list) ≡ true) same refl
    effects_fit scope is (effect_then form forms) es h =
        effects_fit_by scope.parameters.types scope.bound.types (effect_meant types (known_of task) scope form) (effects_meant types (known_of task) scope forms) es
        (λ x e. effect_fits scope is form x e) (λ xs e. effects_fit scope is forms xs e) h
