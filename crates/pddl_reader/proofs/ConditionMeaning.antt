-- What conditions stand for, one equation for each case.

use Rattle.std.proofs.Common.{◌≡◌, ℕ, ◌++◌, Bool, List, [], ◌∷◌, Option, Some, None, refl}
use Rattle.std.proofs.lemmas.List.{append-nil}
use Rattle.std.specs.Option.{option_map}
use Rattle.formulas.specs.declared.terms.Term.{Term}
use Rattle.formulas.specs.declared.variables.VariableGroup as kept
use Rattle.formulas.specs.Tree.{Tree, parts_of}
use Rattle.formulas.specs.Tree as tree
use Rattle.pddl_syntax.specs.Optional.{through, with_front}
use Rattle.pddl_syntax.specs.Syntax.{AtomForm, EqualityForm, VariableGroup, FormulaForm, atom_formula, equality_formula, negation, conjunction, disjunction, implication, exists, for_all, FormulaForms, no_formulas, formulas_of}
use Rattle.pddl_reader.specs.Conditions.{equality_by, implication_by, tree_meant, trees_meant, joined, joined_form, quantification, quantified_form, conjuncts, all_conjuncts, with_condition, conditions_of}
use Rattle.pddl_reader.specs.Declarations.{Known, pattern_of, term_named}
use Rattle.pddl_reader.specs.Bindings.{entered}
use Rattle.pddl_reader.specs.Scopes.{Scope, bound_by}
use Rattle.pddl_reader.specs.declared.resolution.conditions.Junction.{Junction}
use Rattle.pddl_reader.specs.declared.resolution.conditions.Junction.TheVariants.{And, Or}
use Rattle.pddl_reader.specs.declared.resolution.conditions.Quantifier.{Quantifier}
use Rattle.pddl_reader.specs.declared.resolution.conditions.Quantifier.TheVariants.{Exists, ForAll}
use Rattle.pddl_reader.proofs.Items.{item_steps}
use Rattle.pddl_reader.proofs.QuantifierMeaning.{not_quantified, body_refused, body_given}
use Rattle.pddl_reader.proofs.Through.{through_behind, through_append, through_one, behind_none, behind_some, through_end}
use Rattle.pddl_syntax.proofs.ListsOf.{with_front-followed_by, with_item, item_none, item_some, front_none}

pub without_left : (positive : Bool) (left right : Option Term) → left ≡ None → equality_by positive left right ≡ None
unfolding equality_by
without_left positive left right h = rw h refl

pub without_right : (positive : Bool) (left right : Option Term) (l : Term) → left ≡ Some l → right ≡ None → equality_by positive left right ≡ None
unfolding equality_by
without_right positive left right l h e = rw (h, e) refl

pub with_both : (positive : Bool) (left right : Option Term) (l r : Term) → left ≡ Some l → right ≡ Some r →
    equality_by positive left right ≡ Some (tree.equality positive l r)
unfolding equality_by
with_both positive left right l r h e = rw (h, e) refl

pub ruleset equality_steps = (without_left, without_right, with_both)

pub mapped_none : {A B : Type 0} (make : A → B) (found : Option A) → found ≡ None → option_map make found ≡ None
mapped_none make found h = rw h refl

pub mapped_some : {A B : Type 0} (make : A → B) (found : Option A) (x : A) → found ≡ Some x → option_map make found ≡ Some (make x)
mapped_some make found x h = rw h refl

pub ruleset literal_steps = (mapped_none, mapped_some)

pub all_joined : (junction : Junction) (trees : List Tree) → junction ≡ And → joined junction trees ≡ tree.conjunction (parts_of trees)
all_joined junction trees h = rw h refl

pub some_joined : (junction : Junction) (trees : List Tree) → junction ≡ Or → joined junction trees ≡ tree.disjunction (parts_of trees)
some_joined junction trees h = rw h refl

pub ruleset joined_steps = (all_joined, some_joined)

pub some_object : (quantifier : Quantifier) (groups : List kept.VariableGroup) (body : Tree) → quantifier ≡ Exists → quantification quantifier groups body ≡ tree.exists groups body
some_object quantifier groups body h = rw h refl

pub every_object : (quantifier : Quantifier) (groups : List kept.VariableGroup) (body : Tree) → quantifier ≡ ForAll → quantification quantifier groups body ≡ tree.for_all groups body
every_object quantifier groups body h = rw h refl

pub ruleset quantification_steps = (some_object, every_object)

module _ (types : List (List ℕ)) (known : Known) (scope : Scope) where
  pub atom_meant : (positive : Bool) (atom : AtomForm) → tree_meant types known scope (atom_formula positive atom) ≡ option_map (tree.atom positive) (pattern_of known scope atom)
  unfolding tree_meant
  atom_meant positive atom = refl

  pub equality_meant : (positive : Bool) (sides : EqualityForm) → tree_meant types known scope (equality_formula positive sides)
      ≡ equality_by positive (term_named known scope sides.left) (term_named known scope sides.right)
  unfolding tree_meant
  equality_meant positive sides = refl

  pub negation_none : (formula : FormulaForm) → tree_meant types known scope formula ≡ None → tree_meant types known scope (negation formula) ≡ None
  unfolding tree_meant
  negation_none formula h = rw h refl

  pub negation_some : (formula : FormulaForm) (t : Tree) → tree_meant types known scope formula ≡ Some t → tree_meant types known scope (negation formula) ≡ Some (tree.negation t)
  unfolding tree_meant
  negation_some formula t h = rw h refl

  pub joined_none : (junction : Junction) (formulas : FormulaForms) → trees_meant types known scope formulas ≡ None →
      tree_meant types known scope (joined_form junction formulas) ≡ None
  unfolding tree_meant
  joined_none And parts h = rw h refl
  joined_none Or parts h = rw h refl

  pub joined_some : (junction : Junction) (formulas : FormulaForms) (ts : List Tree) → trees_meant types known scope formulas ≡ Some ts →
      tree_meant types known scope (joined_form junction formulas) ≡ Some (joined junction ts)
  unfolding tree_meant
  joined_some And parts ts h = rw h refl
  joined_some Or parts ts h = rw h refl

  pub no_premise : (premise conclusion : FormulaForm) → tree_meant types known scope premise ≡ None → tree_meant types known scope (implication premise conclusion) ≡ None
  unfolding tree_meant implication_by
  no_premise premise conclusion h = rw h refl

  pub no_conclusion : (premise conclusion : FormulaForm) (p : Tree) → tree_meant types known scope premise ≡ Some p → tree_meant types known scope conclusion ≡ None →
      tree_meant types known scope (implication premise conclusion) ≡ None
  unfolding tree_meant implication_by
  no_conclusion premise conclusion p h e = rw (h, e) refl

  pub implication_some : (premise conclusion : FormulaForm) (p c : Tree) → tree_meant types known scope premise ≡ Some p → tree_meant types known scope conclusion ≡ Some c →
      tree_meant types known scope (implication premise conclusion) ≡ Some (tree.implication p c)
  unfolding tree_meant implication_by
  implication_some premise conclusion p c h e = rw (h, e) refl

  pub binding_none : (quantifier : Quantifier) (groups : List VariableGroup) (body : FormulaForm) → entered scope (bound_by types groups) ≡ None →
      tree_meant types known scope (quantified_form quantifier groups body) ≡ None
  unfolding tree_meant
  binding_none Exists groups body h = rw (not_quantified scope (bound_by types groups) (λ s. tree_meant types known s body) h) refl
  binding_none ForAll groups body h = rw (not_quantified scope (bound_by types groups) (λ s. tree_meant types known s body) h) refl

  pub body_none : (quantifier : Quantifier) (groups : List VariableGroup) (body : FormulaForm) (own : List kept.VariableGroup) (inner : Scope) →
      entered scope (bound_by types groups) ≡ Some (own, inner) → tree_meant types known inner body ≡ None → tree_meant types known scope (quantified_form quantifier groups body) ≡ None
  unfolding tree_meant
  body_none Exists groups body own inner h e = rw (body_refused scope inner (bound_by types groups) own (λ s. tree_meant types known s body) h e) refl
  body_none ForAll groups body own inner h e = rw (body_refused scope inner (bound_by types groups) own (λ s. tree_meant types known s body) h e) refl

  pub body_some : (quantifier : Quantifier) (groups : List VariableGroup) (body : FormulaForm) (own : List kept.VariableGroup) (inner : Scope) (t : Tree) →
      entered scope (bound_by types groups) ≡ Some (own, inner) → tree_meant types known inner body ≡ Some t →
      tree_meant types known scope (quantified_form quantifier groups body) ≡ Some (quantification quantifier own t)
  unfolding tree_meant
  body_some Exists groups body own inner t h e = rw (body_given scope inner (bound_by types groups) own (λ s. tree_meant types known s body) t h e) refl
  body_some ForAll groups body own inner t h e = rw (body_given scope inner (bound_by types groups) own (λ s. tree_meant types known s body) t h e) refl

  pub formulas_item : (front : List Tree) (formula : FormulaForm) (formulas : List FormulaForm) →
      with_front front (trees_meant types known scope (formulas_of (formula ∷ formulas)))
      ≡ with_item front (tree_meant types known scope formula) (trees_meant types known scope (formulas_of formulas))
  unfolding trees_meant
  formulas_item front formula formulas = with_front-followed_by front (tree_meant types known scope formula) (trees_meant types known scope (formulas_of formulas))

  pub formulas_end : (front : List Tree) → with_front front (trees_meant types known scope (formulas_of [])) ≡ Some front
  unfolding trees_meant with_front
  formulas_end front = rw append-nil refl

  pub condition_none : (trees : List Tree) (formula : FormulaForm) → tree_meant types known scope formula ≡ None → with_condition types known scope trees formula ≡ None
  unfolding with_condition
  condition_none trees formula h = rw h refl

  pub condition_some : (trees : List Tree) (formula : FormulaForm) (t : Tree) → tree_meant types known scope formula ≡ Some t →
      with_condition types known scope trees formula ≡ Some (trees ++ t ∷ [])
  unfolding with_condition
  condition_some trees formula t h = rw h refl

  pub conditions_start : (formula : FormulaForm) → conditions_of types known scope formula ≡ through (with_condition types known scope) [] (conjuncts formula)
  unfolding conditions_of
  conditions_start formula = refl

  pub no_conditions : conditions_of types known scope (conjunction no_formulas) ≡ Some []
  unfolding conditions_of conjuncts through
  no_conditions = refl

pub ruleset formula_steps = (atom_meant, equality_meant, negation_none, negation_some, no_premise, no_conclusion, implication_some)

pub ruleset compound_steps = (item_steps, front_none, formulas_item, formulas_end, item_none, item_some, joined_none, joined_some)

pub ruleset quantified_steps = (binding_none, body_none, body_some)

pub ruleset condition_steps = (condition_none, condition_some)

pub conjunction_conjuncts : (formulas : FormulaForms) → conjuncts (conjunction formulas) ≡ all_conjuncts formulas
unfolding conjuncts
conjunction_conjuncts formulas = refl

pub conjuncts_item : {S : Type 0} (step : S → FormulaForm → Option S) (state : S) (formula : FormulaForm) (formulas : List FormulaForm) →
    through step state (all_conjuncts (formulas_of (formula ∷ formulas))) ≡ through_behind step (through step state (conjuncts formula)) (all_conjuncts (formulas_of formulas))
unfolding conjuncts
conjuncts_item step state formula formulas = through_append step state (conjuncts formula) (all_conjuncts (formulas_of formulas))

pub conjuncts_end : {S : Type 0} (step : S → FormulaForm → Option S) (state : S) → through step state (all_conjuncts (formulas_of [])) ≡ Some state
unfolding conjuncts
conjuncts_end step state = through_end step state

module _ {S : Type 0} (step : S → FormulaForm → Option S) (state : S) where
  pub one_atom : (positive : Bool) (atom : AtomForm) → through step state (conjuncts (atom_formula positive atom)) ≡ step state (atom_formula positive atom)
  unfolding conjuncts
  one_atom positive atom = through_one step state (atom_formula positive atom)

  pub one_equality : (positive : Bool) (sides : EqualityForm) → through step state (conjuncts (equality_formula positive sides)) ≡ step state (equality_formula positive sides)
  unfolding conjuncts
  one_equality positive sides = through_one step state (equality_formula positive sides)

  pub one_negation : (formula : FormulaForm) → through step state (conjuncts (negation formula)) ≡ step state (negation formula)
  unfolding conjuncts
  one_negation formula = through_one step state (negation formula)

  pub one_disjunction : (formulas : FormulaForms) → through step state (conjuncts (disjunction formulas)) ≡ step state (disjunction formulas)
  unfolding conjuncts
  one_disjunction formulas = through_one step state (disjunction formulas)

  pub one_implication : (premise conclusion : FormulaForm) → through step state (conjuncts (implication premise conclusion)) ≡ step state (implication premise conclusion)
  unfolding conjuncts
  one_implication premise conclusion = through_one step state (implication premise conclusion)

  pub one_exists : (groups : List VariableGroup) (body : FormulaForm) → through step state (conjuncts (exists groups body)) ≡ step state (exists groups body)
  unfolding conjuncts
  one_exists groups body = through_one step state (exists groups body)

  pub one_for_all : (groups : List VariableGroup) (body : FormulaForm) → through step state (conjuncts (for_all groups body)) ≡ step state (for_all groups body)
  unfolding conjuncts
  one_for_all groups body = through_one step state (for_all groups body)

pub ruleset conjunct_steps = (
  conjunction_conjuncts,
  one_atom,
  one_equality,
  one_negation,
  one_disjunction,
  one_implication,
  one_exists,
  one_for_all,
)

pub ruleset all_conjuncts_steps = (item_steps, conjuncts_item, conjuncts_end, behind_none, behind_some)

pub ruleset conditions_steps = (conditions_start, no_conditions)
