-- Patterns and ground atoms that syntax stands for fit in their task.

use Rattle.std.proofs.Common.{◌≡◌, ℕ, true, suc, List, [], ◌∷◌, length, map, Option, Some, None, refl, subst, ap, ◌∙◌}
use Rattle.std.proofs.lemmas.Bool.{eq-eqb}
use Rattle.std.proofs.lemmas.List.{length-map}
use Rattle.std.specs.List.{list_all, slice_get, zip}
use Rattle.std.specs.Map.{values_of}
use Rattle.std.specs.Option.{option_map}
use Rattle.formulas.specs.declared.terms.Pattern.{Pattern}
use Rattle.formulas.specs.declared.terms.Term.{Term}
use Rattle.formulas.specs.declared.terms.Term.TheVariants.{Object}
use Rattle.formulas.specs.declared.atoms.Atom.{Atom}
use Rattle.strips_task.specs.declared.tasks.TaskParts.{TaskParts}
use Rattle.strips_task.specs.WellFormed.{term_types, is_fitting, are_fitting, is_pattern, is_atom}
use Rattle.pddl_reader.specs.Declarations.{Known, fitted_all, fitted_arguments, object_number, term_named, term_fitted, fitting_term, object_fitted, fitting_object, pattern_with, pattern_by, pattern_of, ground_with, ground_by, ground_of, predicate_number}
use Rattle.pddl_reader.specs.Functions.{Vocabulary}
use Rattle.pddl_syntax.specs.Optional.{followed_by}
use Rattle.pddl_syntax.specs.Syntax.{AtomForm}
use Rattle.pddl_reader.specs.Scopes.{Scope}
use Rattle.pddl_syntax.proofs.Guards.{guard_held}

-- what the atoms of a task may speak of
abbrev pub known_of : TaskParts → Known
known_of task = record { parents = task.parents; objects = task.objects; predicates = task.preds }

-- the same, beside functions
abbrev pub vocabulary_of : TaskParts → Known → Vocabulary
vocabulary_of task functions = record { atoms = known_of task; functions = functions }

-- items that fit the argument types one by one
record EachFits {A : Type 0} (parents : List ℕ) (types : A → Option (List ℕ)) (argument_types : List (List ℕ)) (items : List A) : Type 0 where
  as_many : length items ≡ length argument_types
  fitting : list_all (λ p. is_fitting parents p.0 p.1) (zip (map types items) argument_types) ≡ true

module _ {A : Type 0} (parents : List ℕ) (types : A → Option (List ℕ)) (fit : List ℕ → List ℕ → Option A)
    (fits : (allowed word : List ℕ) (x : A) → fit allowed word ≡ Some x → is_fitting parents (types x) allowed ≡ true) where
  each_fits_by : (allowed : List ℕ) (argument_types : List (List ℕ)) (items : List A) (item : Option A) (others : Option (List A)) →
      ((x : A) → item ≡ Some x → is_fitting parents (types x) allowed ≡ true) → ((xs : List A) → others ≡ Some xs → EachFits parents types argument_types xs) →
      followed_by item others ≡ Some items → EachFits parents types (allowed ∷ argument_types) items
  unfolding followed_by
  each_fits_by allowed argument_types items None others first rest h = cc
  each_fits_by allowed argument_types items (Some x) None first rest h = cc
  each_fits_by allowed argument_types items (Some x) (Some xs) first rest h =
      let same : x ∷ xs ≡ items = cc in
      let all = rest xs refl in
      let P : List A → Type 0 = λ ys. EachFits parents types (allowed ∷ argument_types) ys in
      subst P same (record { as_many = ap suc all.as_many; fitting = rw (first x refl, all.fitting) refl })

  each_fits : (argument_types words : List (List ℕ)) (items : List A) → fitted_all fit argument_types words ≡ Some items → EachFits parents types argument_types items
  unfolding fitted_all
  each_fits [] [] items h =
      let same : [] ≡ items = cc in
      let P : List A → Type 0 = λ ys. EachFits parents types [] ys in
      subst P same (record { as_many = refl; fitting = refl })
  each_fits [] (w ∷ ws) items h = cc
  each_fits (p ∷ ps) [] items h = cc
  each_fits (p ∷ ps) (w ∷ ws) items h =
      each_fits_by p ps items (fit p w) (fitted_all fit ps ws) (fits p w) (λ xs e. each_fits ps ws xs e) h

  pub fitted : (argument_types words : List (List ℕ)) (items : List A) → fitted_all fit argument_types words ≡ Some items →
      are_fitting parents (map types items) (Some argument_types) ≡ true
  unfolding are_fitting
  fitted argument_types words items h =
      let all = each_fits argument_types words items h in
      rw (eq-eqb (length (map types items)) (length argument_types) (length-map items types ∙ all.as_many), all.fitting) refl

term_fits_by : (task : TaskParts) (scope : Scope) (allowed : List ℕ) (found : Option Term) (x : Term) → term_fitted (known_of task) scope allowed found ≡ Some x →
    is_fitting task.parents (term_types task.objects scope.parameters.types scope.bound.types x) allowed ≡ true
unfolding term_fitted
term_fits_by task scope allowed None x h = cc
term_fits_by task scope allowed (Some t) x h =
    let held = guard_held (is_fitting task.parents (term_types task.objects scope.parameters.types scope.bound.types t) allowed) t x h in
    let P : Term → Type 0 = λ y. is_fitting task.parents (term_types task.objects scope.parameters.types scope.bound.types y) allowed ≡ true in
    subst P held.1 held.0

term_fits : (task : TaskParts) (scope : Scope) (allowed word : List ℕ) (x : Term) → fitting_term (known_of task) scope allowed word ≡ Some x →
    is_fitting task.parents (term_types task.objects scope.parameters.types scope.bound.types x) allowed ≡ true
unfolding fitting_term
term_fits task scope allowed word x h = term_fits_by task scope allowed (term_named (known_of task) scope word) x h

object_fits_by : (task : TaskParts) (allowed : List ℕ) (found : Option ℕ) (x : ℕ) → object_fitted (known_of task) allowed found ≡ Some x →
    is_fitting task.parents (term_types task.objects [] [] (Object x)) allowed ≡ true
unfolding object_fitted
object_fits_by task allowed None x h = cc
object_fits_by task allowed (Some n) x h =
    let held = guard_held (is_fitting task.parents (term_types task.objects [] [] (Object n)) allowed) n x h in
    let P : ℕ → Type 0 = λ y. is_fitting task.parents (term_types task.objects [] [] (Object y)) allowed ≡ true in
    subst P held.1 held.0

object_fits : (task : TaskParts) (allowed word : List ℕ) (x : ℕ) → fitting_object (known_of task) allowed word ≡ Some x →
    is_fitting task.parents (term_types task.objects [] [] (Object x)) allowed ≡ true
unfolding fitting_object
object_fits task allowed word x h = object_fits_by task allowed (object_number task.objects word) x h

pattern_fits_in : (task : TaskParts) (scope : Scope) (words : List (List ℕ)) (number : ℕ) (pattern : Pattern) (argument_types : Option (List (List ℕ))) →
    slice_get (values_of task.preds) number ≡ argument_types → option_map (pattern_with number) (fitted_arguments (fitting_term (known_of task) scope) argument_types words) ≡ Some pattern →
    is_pattern task scope.parameters.types scope.bound.types pattern ≡ true
unfolding is_pattern fitted_arguments
pattern_fits_in task scope words number pattern None e h = cc
pattern_fits_in task scope words number pattern (Some argument_types) e h = by (fitted_all (fitting_term (known_of task) scope) argument_types words) refl h
  where
    by : (terms : Option (List Term)) → fitted_all (fitting_term (known_of task) scope) argument_types words ≡ terms → option_map (pattern_with number) terms ≡ Some pattern →
        is_pattern task scope.parameters.types scope.bound.types pattern ≡ true
    by None k g = cc
    by (Some ts) k g =
        let same : pattern_with number ts ≡ pattern = cc in
        let P : Pattern → Type 0 = λ q. is_pattern task scope.parameters.types scope.bound.types q ≡ true in
        subst P same (rw e (fitted task.parents (term_types task.objects scope.parameters.types scope.bound.types) (fitting_term (known_of task) scope) (term_fits task scope) argument_types words ts k))

pattern_fits_by : (task : TaskParts) (scope : Scope) (words : List (List ℕ)) (number : Option ℕ) (pattern : Pattern) →
    pattern_by (known_of task) scope words number ≡ Some pattern → is_pattern task scope.parameters.types scope.bound.types pattern ≡ true
unfolding pattern_by
pattern_fits_by task scope words None pattern h = cc
pattern_fits_by task scope words (Some n) pattern h = pattern_fits_in task scope words n pattern (slice_get (values_of task.preds) n) refl h

pub pattern_fits : (task : TaskParts) (scope : Scope) (atom : AtomForm) (pattern : Pattern) → pattern_of (known_of task) scope atom ≡ Some pattern →
    is_pattern task scope.parameters.types scope.bound.types pattern ≡ true
unfolding pattern_of
pattern_fits task scope atom pattern h = pattern_fits_by task scope atom.terms (predicate_number task.preds atom) pattern h

atom_fits_in : (task : TaskParts) (words : List (List ℕ)) (number : ℕ) (atom : Atom) (argument_types : Option (List (List ℕ))) →
    slice_get (values_of task.preds) number ≡ argument_types → option_map (ground_with number) (fitted_arguments (fitting_object (known_of task)) argument_types words) ≡ Some atom →
    is_atom task atom ≡ true
unfolding is_atom fitted_arguments
atom_fits_in task words number atom None e h = cc
atom_fits_in task words number atom (Some argument_types) e h = by (fitted_all (fitting_object (known_of task)) argument_types words) refl h
  where
    by : (args : Option (List ℕ)) → fitted_all (fitting_object (known_of task)) argument_types words ≡ args → option_map (ground_with number) args ≡ Some atom →
        is_atom task atom ≡ true
    by None k g = cc
    by (Some ns) k g =
        let same : ground_with number ns ≡ atom = cc in
        let P : Atom → Type 0 = λ a. is_atom task a ≡ true in
        subst P same (rw e (fitted task.parents (λ o. term_types task.objects [] [] (Object o)) (fitting_object (known_of task)) (object_fits task) argument_types words ns k))

atom_fits_by : (task : TaskParts) (words : List (List ℕ)) (number : Option ℕ) (atom : Atom) → ground_by (known_of task) words number ≡ Some atom → is_atom task atom ≡ true
unfolding ground_by
atom_fits_by task words None atom h = cc
atom_fits_by task words (Some n) atom h = atom_fits_in task words n atom (slice_get (values_of task.preds) n) refl h

pub atom_fits : (task : TaskParts) (form : AtomForm) (atom : Atom) → ground_of (known_of task) form ≡ Some atom → is_atom task atom ≡ true
unfolding ground_of
atom_fits task form atom h = atom_fits_by task form.terms (predicate_number task.preds form) atom h
