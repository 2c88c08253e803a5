-- A domain that syntax stands for is well formed.

use Rattle.std.proofs.Common.{◌≡◌, ℕ, ◌≤◌, ◌++◌, Bool, true, false, List, [], ◌∷◌, length, Option, Some, None, refl, subst, sym, ◌∙◌, arith}
use Rattle.std.proofs.lemmas.List.{length-map, map-append}
use Rattle.std.proofs.lemmas.List.Folds.{list_all-append}
use Rattle.std.specs.List.{list_all}
use Rattle.std.specs.Option.{option_map}
use Rattle.std.specs.Map.{keys_of, values_of}
use Rattle.pddl_words.specs.Words.{folded}
use Rattle.formulas.specs.Tree.{Tree}
use Rattle.formulas.specs.declared.terms.Pattern.{Pattern}
use Rattle.formulas.specs.EffectTree.{EffectTree}
use Rattle.strips_task.specs.declared.tasks.TaskParts.{TaskParts}
use Rattle.strips_task.specs.Names.{are_distinct}
use Rattle.strips_task.specs.Types.{IsTypeTree}
use Rattle.strips_task.specs.WellFormed.{are_variables, is_pattern, is_formula, is_effect, is_action}
use Rattle.strips_task.proofs.NameNumbers.{entries_distinct}
use Rattle.strips_task.specs.declared.amounts.Amount.{Amount}
use Rattle.pddl_reader.specs.declared.resolution.actions.ActionTables.{ActionTables}
use Rattle.pddl_reader.specs.declared.resolution.actions.CostedAction.{CostedAction}
use Rattle.pddl_reader.specs.declared.resolution.effects.Effects.{Effects}
use Rattle.pddl_syntax.specs.declared.dialect.Dialect.{Dialect}
use Rattle.pddl_syntax.specs.Optional.{guard}
use Rattle.pddl_reader.specs.Conditions.{tree_meant, conjuncts, with_condition, conditions_of}
use Rattle.pddl_reader.specs.Declarations.{Predicates, may_declare, declared, pattern_of, Known}
use Rattle.pddl_reader.specs.Effects.{effect_meant, single_effects, nothing_happens, changed, with_change, increased, joined, with_effect, effects_of}
use Rattle.pddl_reader.specs.Scopes.{Scope, outermost}
use Rattle.pddl_reader.specs.Variables.{TypedVariables, argument_types_of, variables_of}
use Rattle.pddl_reader.proofs.FittingAtoms.{known_of, vocabulary_of, pattern_fits}
use Rattle.pddl_reader.proofs.FittingFormulas.{formula_fits, effect_fits}
use Rattle.pddl_reader.proofs.KnownTerms.{IsPaired, IsScope, option_map_some}
use Rattle.pddl_reader.proofs.KeptVariables.{argument_types_kept, variables_kept, variables_paired}
use Rattle.pddl_reader.proofs.Through.{through_keeps}
use Rattle.pddl_reader.specs.Domain.{DomainValue, declared_predicate, vocabulary_by, action_by, with_predicate, predicates_from, may_have, with_function, functions_from, action_doing, action_with, action_meant, Actions, no_actions, tables_with, declared_action, with_action_of, actions_from, head, head_typed, head_of, domain_value, domain_with}
use Rattle.pddl_reader.specs.DomainTables.{bare_task, IsDomain}
use Rattle.pddl_reader.specs.Functions.{with_increase}
use Rattle.pddl_reader.specs.Objects.{Objects, objects_from}
use Rattle.pddl_reader.specs.TypeOrder.{types_of}
use Rattle.pddl_reader.specs.declared.resolution.domain.Head.{Head}
use Rattle.pddl_reader.specs.declared.resolution.types.KnownTypes.{KnownTypes}
use Rattle.pddl_reader.proofs.KeptObjects.{AreObjects, AreKnown, known_types, objects_kept, no_objects}
use Rattle.pddl_syntax.specs.Syntax.{FormulaForm, EffectForm, atom_effect, increase_effect, joint_effect, conditional_effect, universal_effect, PredicateForm, ActionForm, DomainForm}
use Rattle.pddl_reader.proofs.DeclarationLemmas.{may_declare_new, may_declare_length}

no_names_distinct : are_distinct [] ≡ true
unfolding are_distinct
no_names_distinct = refl

-- a table that declarations keep in order: names are distinct, there are at most 4096, and the values pass a test
record IsKept {V : Type 0} (test : V → Bool) (table : List (List ℕ × V)) : Type 0 where
  distinct : are_distinct (keys_of table) ≡ true
  few : length table ≤ 4096
  passed : list_all test (values_of table) ≡ true

kept_declared_if : {V : Type 0} (test : V → Bool) (table more : List (List ℕ × V)) (name : List ℕ) (value : V) (allowed : Bool) →
    may_declare 4096 table name ≡ allowed → IsKept test table → test value ≡ true → guard allowed (Some (table ++ (name, value) ∷ [])) ≡ Some more → IsKept test more
unfolding guard
kept_declared_if {V} test table more name value true may kept passes h =
    let e : table ++ (name, value) ∷ [] ≡ more = cc in
    let all : list_all test (values_of (table ++ (name, value) ∷ [])) ≡ true =
    rw (map-append (λ (e : List ℕ × V). e.1) table ((name, value) ∷ []), list_all-append test (values_of table) (value ∷ []), kept.passed, passes) refl in
    let P : List (List ℕ × V) → Type 0 = λ t. IsKept test t in
    subst P e (record {
      distinct = entries_distinct table name value (may_declare_new 4096 table name may) kept.distinct;
      few = may_declare_length 4096 table name value may;
      passed = all;
    })
kept_declared_if test table more name value false may kept passes h = cc

kept_declared : {V : Type 0} (test : V → Bool) (table more : List (List ℕ × V)) (name : List ℕ) (value : V) →
    IsKept test table → test value ≡ true → declared 4096 table name value ≡ Some more → IsKept test more
unfolding declared
kept_declared test table more name value kept passes h = kept_declared_if test table more name value (may_declare 4096 table name) refl kept passes h

predicate_kept_by : (parents : List ℕ) (table more : Predicates) (name : List ℕ) (argument_types : Option (List (List ℕ))) →
    ((ps : List (List ℕ)) → argument_types ≡ Some ps → are_variables parents ps ≡ true) → IsKept (are_variables parents) table →
    declared_predicate table name argument_types ≡ Some more → IsKept (are_variables parents) more
unfolding declared_predicate
predicate_kept_by parents table more name None typed kept h = cc
predicate_kept_by parents table more name (Some ps) typed kept h = kept_declared (are_variables parents) table more name ps kept (typed ps refl) h

predicate_kept : (parents : List ℕ) (types : List (List ℕ)) → length types ≡ length parents → (table : Predicates) (p : PredicateForm) (more : Predicates) →
    IsKept (are_variables parents) table → with_predicate types table p ≡ Some more → IsKept (are_variables parents) more
unfolding with_predicate
predicate_kept parents types is table p more kept h =
    predicate_kept_by parents table more (folded p.name) (argument_types_of types p.variables) (λ ps e. argument_types_kept parents types p.variables ps is e) kept h

-- predicates are declared in order
kept_predicates : (parents : List ℕ) (types : List (List ℕ)) → length types ≡ length parents → (table : Predicates) (ps : List PredicateForm) (more : Predicates) →
    IsKept (are_variables parents) table → predicates_from types table ps ≡ Some more → IsKept (are_variables parents) more
unfolding predicates_from
kept_predicates parents types is table ps more kept h =
    through_keeps (λ t. IsKept (are_variables parents) t) (with_predicate types) (predicate_kept parents types is) table ps more kept h

guard_some : {A : Type 0} (test : Bool) (value : Option A) (found : A) → guard test value ≡ Some found → value ≡ Some found
unfolding guard
guard_some true value found h = h
guard_some false value found h = cc

function_kept : (parents : List ℕ) (types : List (List ℕ)) → length types ≡ length parents → (table : Predicates) (f : PredicateForm) (more : Predicates) →
    IsKept (are_variables parents) table → with_function types table f ≡ Some more → IsKept (are_variables parents) more
unfolding with_function
function_kept parents types is table f more kept h =
    predicate_kept parents types is table f more kept (guard_some (may_have (folded f.name) f.variables) (with_predicate types table f) more h)

-- functions are declared in order
kept_functions : (parents : List ℕ) (types : List (List ℕ)) → length types ≡ length parents → (table : Predicates) (fs : List PredicateForm) (more : Predicates) →
    IsKept (are_variables parents) table → functions_from types table fs ≡ Some more → IsKept (are_variables parents) more
unfolding functions_from
kept_functions parents types is table fs more kept h =
    through_keeps (λ t. IsKept (are_variables parents) t) (with_function types) (function_kept parents types is) table fs more kept h

-- the conditions with one more
condition_fits : (task : TaskParts) (types : List (List ℕ)) → length types ≡ length task.parents → (scope : Scope) → IsScope scope → (before : List Tree) (form : FormulaForm)
    (more : List Tree) → list_all (is_formula task scope.parameters.types scope.bound.types) before ≡ true → with_condition types (known_of task) scope before form ≡ Some more →
    list_all (is_formula task scope.parameters.types scope.bound.types) more ≡ true
unfolding with_condition
condition_fits task types typed scope is before form more all h =
    let test = is_formula task scope.parameters.types scope.bound.types in
    let found = option_map_some (λ condition. before ++ condition ∷ []) (tree_meant types (known_of task) scope form) more h in
    subst (λ list. list_all test list ≡ true) found.2
    (rw (list_all-append test before (found.0 ∷ []), all, formula_fits task types typed scope is form found.0 found.1) refl)

pub conditions_fit : (task : TaskParts) (types : List (List ℕ)) → length types ≡ length task.parents → (scope : Scope) → IsScope scope → (form : FormulaForm) (cs : List Tree) →
    conditions_of types (known_of task) scope form ≡ Some cs → list_all (is_formula task scope.parameters.types scope.bound.types) cs ≡ true
unfolding conditions_of
conditions_fit task types typed scope is form cs h =
    through_keeps (λ list. list_all (is_formula task scope.parameters.types scope.bound.types) list ≡ true) (with_condition types (known_of task) scope)
    (condition_fits task types typed scope is) [] (conjuncts form) cs refl h

-- what an action does fits
record AreFitting (task : TaskParts) (scope : Scope) (effects : Effects) : Type 0 where
  adds : list_all (is_pattern task scope.parameters.types scope.bound.types) effects.add ≡ true
  dels : list_all (is_pattern task scope.parameters.types scope.bound.types) effects.del ≡ true
  inner : list_all (is_effect task scope.parameters.types scope.bound.types) effects.inner ≡ true

module _ (task : TaskParts) (scope : Scope) where
  changed_fits : (e : Effects) (positive : Bool) (p : Pattern) → is_pattern task scope.parameters.types scope.bound.types p ≡ true → AreFitting task scope e →
      AreFitting task scope (changed e positive p)
  unfolding changed
  changed_fits e true p fit rest = record {
    adds = rw (list_all-append (is_pattern task scope.parameters.types scope.bound.types) e.add (p ∷ []), rest.adds, fit) refl;
    dels = rest.dels;
    inner = rest.inner;
  }
  changed_fits e false p fit rest = record {
    adds = rest.adds;
    dels = rw (list_all-append (is_pattern task scope.parameters.types scope.bound.types) e.del (p ∷ []), rest.dels, fit) refl;
    inner = rest.inner;
  }

  change_fits : (e : Effects) (positive : Bool) (pattern : Option Pattern) (more : Effects) →
      ((p : Pattern) → pattern ≡ Some p → is_pattern task scope.parameters.types scope.bound.types p ≡ true) → AreFitting task scope e → with_change e positive pattern ≡ Some more →
      AreFitting task scope more
  unfolding with_change
  change_fits e positive None more fits rest h = cc
  change_fits e positive (Some p) more fits rest h =
      let is : changed e positive p ≡ more = cc in
      subst (AreFitting task scope) is (changed_fits e positive p (fits p refl) rest)

  increase_fits : (e : Effects) (increases : Option (List Amount)) (more : Effects) → AreFitting task scope e →
      option_map (increased e) increases ≡ Some more → AreFitting task scope more
  increase_fits e None more rest h = cc
  increase_fits e (Some increases) more rest h =
      let is : increased e increases ≡ more = cc in
      subst (AreFitting task scope) is (record { adds = rest.adds; dels = rest.dels; inner = rest.inner })

  inner_fits : (e : Effects) (effect : Option EffectTree) (more : Effects) → ((x : EffectTree) → effect ≡ Some x → is_effect task scope.parameters.types scope.bound.types x ≡ true) →
      AreFitting task scope e → option_map (joined e) effect ≡ Some more → AreFitting task scope more
  inner_fits e None more fits rest h = cc
  inner_fits e (Some x) more fits rest h =
      let is : joined e x ≡ more = cc in
      subst (AreFitting task scope) is (record {
        adds = rest.adds;
        dels = rest.dels;
        inner = rw (list_all-append (is_effect task scope.parameters.types scope.bound.types) e.inner (x ∷ []), rest.inner, fits x refl) refl;
      })

module _ (task : TaskParts) (functions : Known) (types : List (List ℕ)) (typed : length types ≡ length task.parents) (scope : Scope) (is : IsScope scope) where
  with_effect_fits : (e : Effects) (form : EffectForm) (more : Effects) → AreFitting task scope e → with_effect types (vocabulary_of task functions) scope e form ≡ Some more →
      AreFitting task scope more
  unfolding with_effect
  with_effect_fits e (atom_effect positive atom) more rest h =
      change_fits task scope e positive (pattern_of (known_of task) scope atom) more (pattern_fits task scope atom) rest h
  with_effect_fits e (increase_effect amount) more rest h =
      increase_fits task scope e (with_increase (vocabulary_of task functions) scope e.increases amount) more rest h
  with_effect_fits e (joint_effect parts) more rest h =
      inner_fits task scope e (effect_meant types (known_of task) scope (joint_effect parts)) more (effect_fits task types typed scope is (joint_effect parts)) rest h
  with_effect_fits e (conditional_effect condition effect) more rest h =
      inner_fits task scope e (effect_meant types (known_of task) scope (conditional_effect condition effect)) more
      (effect_fits task types typed scope is (conditional_effect condition effect)) rest h
  with_effect_fits e (universal_effect groups effect) more rest h =
      inner_fits task scope e (effect_meant types (known_of task) scope (universal_effect groups effect)) more
      (effect_fits task types typed scope is (universal_effect groups effect)) rest h

  effects_fit : (form : EffectForm) (es : Effects) → effects_of types (vocabulary_of task functions) scope form ≡ Some es → AreFitting task scope es
  unfolding effects_of
  effects_fit form es h =
      through_keeps (AreFitting task scope) (with_effect types (vocabulary_of task functions) scope) with_effect_fits nothing_happens (single_effects form) es
      (record { adds = refl; dels = refl; inner = refl }) h

-- the scope of parameters that have types
pub outermost_scope : (q : TypedVariables) → IsPaired q → IsScope (outermost q)
outermost_scope q paired = record { parameters = paired; bound = refl }

action_fits_by : (task : TaskParts) (q : TypedVariables) (pre : Option (List Tree)) (es : Option Effects) (meant : CostedAction) → are_variables task.parents q.types ≡ true →
    ((cs : List Tree) → pre ≡ Some cs → list_all (is_formula task q.types []) cs ≡ true) →
    ((e : Effects) → es ≡ Some e → AreFitting task (outermost q) e) →
    action_with q.types pre es ≡ Some meant → is_action task meant.action ≡ true
unfolding action_with is_action
action_fits_by task q None es meant typed pres effs h = cc
action_fits_by task q (Some cs) None meant typed pres effs h = cc
action_fits_by task q (Some cs) (Some e) meant typed pres effs h =
    let P : CostedAction → Type 0 = λ a. is_action task a.action ≡ true in
    let is : action_doing q.types cs e ≡ meant = cc in
    let fit = effs e refl in
    subst P is (rw (typed, pres cs refl, fit.adds, fit.dels, fit.inner) refl)

action_fits_with : (task : TaskParts) (functions : Known) (types : List (List ℕ)) → length types ≡ length task.parents → (a : ActionForm) (q : Option TypedVariables)
    (meant : CostedAction) → ((r : TypedVariables) → q ≡ Some r → are_variables task.parents r.types ≡ true) →
    ((r : TypedVariables) → q ≡ Some r → IsPaired r) → action_by types (vocabulary_of task functions) a q ≡ Some meant → is_action task meant.action ≡ true
unfolding action_by
action_fits_with task functions types is a None meant typed paired h = cc
action_fits_with task functions types is a (Some q) meant typed paired h =
    let scoped = outermost_scope q (paired q refl) in
    action_fits_by task q (conditions_of types (known_of task) (outermost q) a.precondition) (effects_of types (vocabulary_of task functions) (outermost q) a.effect) meant
    (typed q refl) (conditions_fit task types is (outermost q) scoped a.precondition) (effects_fit task functions types is (outermost q) scoped a.effect) h

action_fits : (task : TaskParts) (functions : Known) (types : List (List ℕ)) → length types ≡ length task.parents → (a : ActionForm) (meant : CostedAction) →
    action_meant types (vocabulary_of task functions) a ≡ Some meant → is_action task meant.action ≡ true
unfolding action_meant
action_fits task functions types is a meant h =
    action_fits_with task functions types is a (variables_of types a.parameters) meant (λ r e. variables_kept task.parents types a.parameters r is e)
    (λ r e. variables_paired task.parents types a.parameters r is e) h

declared_action_kept : (task : TaskParts) (tables more : ActionTables) (name : List ℕ) (meant : Option CostedAction) →
    ((a : CostedAction) → meant ≡ Some a → is_action task a.action ≡ true) → IsKept (is_action task) tables.actions →
    declared_action tables name meant ≡ Some more → IsKept (is_action task) more.actions
unfolding declared_action
declared_action_kept task tables more name None fits kept h = cc
declared_action_kept task tables more name (Some a) fits kept h = by (declared 4096 tables.actions name a.action) refl h
  where
    by : (found : Option Actions) → declared 4096 tables.actions name a.action ≡ found → option_map (tables_with tables a) found ≡ Some more →
        IsKept (is_action task) more.actions
    by None e k = cc
    by (Some actions) e k =
        let P : ActionTables → Type 0 = λ t. IsKept (is_action task) t.actions in
        let same : tables_with tables a actions ≡ more = cc in
        subst P same (kept_declared (is_action task) tables.actions actions name a.action kept (fits a refl) e)

action_kept : (task : TaskParts) (functions : Known) (types : List (List ℕ)) → length types ≡ length task.parents →
    (tables : ActionTables) (a : ActionForm) (more : ActionTables) →
    IsKept (is_action task) tables.actions → with_action_of types (vocabulary_of task functions) tables a ≡ Some more → IsKept (is_action task) more.actions
unfolding with_action_of
action_kept task functions types is tables a more kept h =
    declared_action_kept task tables more (folded a.name) (action_meant types (vocabulary_of task functions) a) (action_fits task functions types is a) kept h

kept_actions : (task : TaskParts) (functions : Known) (types : List (List ℕ)) → length types ≡ length task.parents →
    (tables : ActionTables) (forms : List ActionForm) (more : ActionTables) →
    IsKept (is_action task) tables.actions → actions_from types (vocabulary_of task functions) tables forms ≡ Some more → IsKept (is_action task) more.actions
unfolding actions_from
kept_actions task functions types is tables forms more kept h =
    through_keeps (λ t. IsKept (is_action task) t.actions) (with_action_of types (vocabulary_of task functions)) (action_kept task functions types is) tables forms more kept h

-- what a domain declares before its predicates is well formed
pub record IsHead (head : Head) : Type 0 where
  pub tree : IsTypeTree head.parents
  pub few_types : length head.parents ≤ 1025
  pub types_named : length (keys_of head.types) ≡ length head.parents
  pub objects : AreObjects (length head.parents) head.objects

well_formed : (head : Head) (predicates functions : Predicates) (tables : ActionTables) → IsHead head → IsKept (are_variables head.parents) predicates →
    IsKept (are_variables head.parents) functions →
    IsKept (is_action (bare_task (domain_value head predicates functions tables))) tables.actions → IsDomain (domain_value head predicates functions tables)
well_formed head predicates functions tables h p f a = record {
  fits = record {
    types_form_a_tree = h.tree;
    types_named = length-map (keys_of head.types) (λ name. (name, tt)) ∙ h.types_named;
    few_types = h.few_types;
    few_objects = h.objects.few;
    few_predicates = p.few;
    few_actions = a.few;
    objects_distinct = h.objects.distinct;
    predicates_distinct = p.distinct;
    actions_distinct = a.distinct;
    objects_typed = h.objects.typed;
    predicates_typed = p.passed;
    actions_fit = a.passed;
    initial_atoms_fit = refl;
    goal_fits = refl;
  };
  types_named = h.types_named;
  few_functions = f.few;
}

domain_by_actions : (head : Head) (predicates functions : Predicates) (tables : Option ActionTables) (d : DomainValue) → IsHead head →
    IsKept (are_variables head.parents) predicates → IsKept (are_variables head.parents) functions →
    ((t : ActionTables) → tables ≡ Some t → IsKept (is_action (bare_task (domain_value head predicates functions t))) t.actions) →
    option_map (domain_value head predicates functions) tables ≡ Some d → IsDomain d
domain_by_actions head predicates functions None d is kept kept_too fits h = cc
domain_by_actions head predicates functions (Some t) d is kept kept_too fits h =
    let P : DomainValue → Type 0 = λ d. IsDomain d in
    let e : domain_value head predicates functions t ≡ d = cc in
    subst P e (well_formed head predicates functions t is kept kept_too (fits t refl))

actions_kept : (head : Head) (predicates functions : Predicates) (forms : List ActionForm) (tables : ActionTables) → IsHead head →
    actions_from (keys_of head.types) (vocabulary_by head predicates functions) no_actions forms ≡ Some tables →
    IsKept (is_action (bare_task (domain_value head predicates functions tables))) tables.actions
actions_kept head predicates functions forms tables is h =
    kept_actions (bare_task (domain_value head predicates functions tables)) (vocabulary_by head predicates functions).functions (keys_of head.types) is.types_named no_actions
    forms tables (record { distinct = no_names_distinct; few = omega arith; passed = refl }) h

domain_by_tables : (domain : DomainForm) (head : Head) (predicates functions : Option Predicates) (d : DomainValue) → IsHead head →
    ((p : Predicates) → predicates ≡ Some p → IsKept (are_variables head.parents) p) →
    ((f : Predicates) → functions ≡ Some f → IsKept (are_variables head.parents) f) → domain_with domain head predicates functions ≡ Some d → IsDomain d
unfolding domain_with
domain_by_tables domain head None functions d is kept kept_too h = cc
domain_by_tables domain head (Some p) None d is kept kept_too h = cc
domain_by_tables domain head (Some p) (Some f) d is kept kept_too h =
    domain_by_actions head p f (actions_from (keys_of head.types) (vocabulary_by head p f) no_actions domain.actions) d is (kept p refl) (kept_too f refl)
    (λ t e. actions_kept head p f domain.actions t is e) h

head_by_objects : (name : List ℕ) (types : KnownTypes) (objects : Option Objects) (found : Head) → AreKnown types →
    ((o : Objects) → objects ≡ Some o → AreObjects (length types.parents) o) → option_map (head name types) objects ≡ Some found → IsHead found
head_by_objects name types None found known kept h = cc
head_by_objects name types (Some o) found known kept h =
    let e : head name types o ≡ found = cc in
    subst IsHead e (record { tree = known.tree; few_types = known.few; types_named = known.named; objects = kept o refl })

head_by_types : (domain : DomainForm) (types : Option KnownTypes) (found : Head) → ((t : KnownTypes) → types ≡ Some t → AreKnown t) →
    head_typed domain types ≡ Some found → IsHead found
unfolding head_typed
head_by_types domain None found known h = cc
head_by_types domain (Some t) found known h =
    let k = known t refl in
    head_by_objects domain.name t (objects_from (keys_of t.names) [] domain.constants) found k
    (λ o e. objects_kept (length t.parents) (keys_of t.names) [] domain.constants o k.named (no_objects (length t.parents)) e) h

pub head_well_formed : (dialect : Dialect) (domain : DomainForm) (head : Head) → head_of dialect domain ≡ Some head → IsHead head
unfolding head_of
head_well_formed dialect domain head h = head_by_types domain (types_of dialect domain.types) head (known_types dialect domain.types) h

pub head_types_few : (dialect : Dialect) (domain : DomainForm) (head : Head) → head_of dialect domain ≡ Some head → length head.types ≤ 1025
head_types_few dialect domain head h =
    let is = head_well_formed dialect domain head h in
    let keys : length (keys_of head.types) ≡ length head.types = length-map head.types (λ (e : List ℕ × Unit {0}). e.0) in
    let named : length (keys_of head.types) ≡ length head.parents = is.types_named in
    let few : length head.parents ≤ 1025 = is.few_types in
    omega arith

pub head_objects_few : (dialect : Dialect) (domain : DomainForm) (head : Head) → head_of dialect domain ≡ Some head → length head.objects ≤ 65535
head_objects_few dialect domain head h = (head_well_formed dialect domain head h).objects.few

-- the domain that syntax stands for is well formed
pub domain_well_formed : (dialect : Dialect) (domain : DomainForm) (head : Head) (predicates functions : Option Predicates) (d : DomainValue) →
    head_of dialect domain ≡ Some head → predicates ≡ predicates_from (keys_of head.types) [] domain.predicates →
    functions ≡ functions_from (keys_of head.types) [] domain.functions → domain_with domain head predicates functions ≡ Some d → IsDomain d
domain_well_formed dialect domain head predicates functions d h is too e =
    let well = head_well_formed dialect domain head h in
    let none : IsKept (are_variables head.parents) [] = record { distinct = no_names_distinct; few = omega arith; passed = refl } in
    domain_by_tables domain head predicates functions d well
    (λ p k. kept_predicates head.parents (keys_of head.types) well.types_named [] domain.predicates p none (sym is ∙ k))
    (λ f k. kept_functions head.parents (keys_of head.types) well.types_named [] domain.functions f none (sym too ∙ k)) e
