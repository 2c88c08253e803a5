-- Terms that fit an argument's types, one equation for each case.

use Rattle.std.proofs.Common.{◌≡◌, ℕ, true, false, List, [], ◌∷◌, Option, Some, None, refl}
use Rattle.std.proofs.lemmas.List.{append-nil}
use Rattle.pddl_words.specs.Words.{folded}
use Rattle.formulas.specs.declared.terms.Term.{Term}
use Rattle.formulas.specs.declared.terms.Term.TheVariants.{Object}
use Rattle.strips_task.specs.Names.{number_named}
use Rattle.strips_task.specs.WellFormed.{is_fitting, term_types}
use Rattle.pddl_syntax.specs.declared.walk.Word.{Word}
use Rattle.pddl_reader.specs.Declarations.{Known, fitted_all, object_number, term_named, term_fitted, fitting_term, object_fitted, fitting_object}
use Rattle.pddl_syntax.specs.Forms.{word_forms}
use Rattle.pddl_syntax.specs.Heads.{is_variable}
use Rattle.pddl_reader.specs.Objects.{Objects}
use Rattle.pddl_syntax.specs.Optional.{guard, with_front}
use Rattle.pddl_reader.specs.Scopes.{Scope, variable_meant}
use Rattle.pddl_reader.proofs.Items.{item_steps, word_item_steps}
use Rattle.pddl_syntax.proofs.ListsOf.{with_item, with_front-followed_by, item_none, item_some, front_none}

pub object_named : (objects : Objects) (w : List ℕ) → object_number objects w ≡ number_named objects (folded w)
unfolding object_number
object_named objects w = refl

pub ruleset object_steps = (object_named)

pub object_missing : (known : Known) (allowed w : List ℕ) → object_number known.objects w ≡ None → fitting_object known allowed w ≡ None
unfolding fitting_object object_fitted
object_missing known allowed w h = rw h refl

pub object_unfit : (known : Known) (allowed w : List ℕ) (number : ℕ) → object_number known.objects w ≡ Some number →
    is_fitting known.parents (term_types known.objects [] [] (Object number)) allowed ≡ false → fitting_object known allowed w ≡ None
unfolding fitting_object object_fitted guard
object_unfit known allowed w number h e = rw (h, e) refl

pub object_fit : (known : Known) (allowed w : List ℕ) (number : ℕ) → object_number known.objects w ≡ Some number →
    is_fitting known.parents (term_types known.objects [] [] (Object number)) allowed ≡ true → fitting_object known allowed w ≡ Some number
unfolding fitting_object object_fitted guard
object_fit known allowed w number h e = rw (h, e) refl

pub ruleset fitting_object_steps = (object_missing, object_unfit, object_fit)

pub fitted_end : {A : Type 0} (front : List A) (fit : List ℕ → List ℕ → Option A) → with_front front (fitted_all fit [] (word_forms [])) ≡ Some front
unfolding fitted_all with_front word_forms
fitted_end front fit = rw append-nil refl

pub fitted_item : {A : Type 0} (front : List A) (fit : List ℕ → List ℕ → Option A) (allowed : List ℕ) (argument_types : List (List ℕ)) (x : Word) (xs : List Word) →
    with_front front (fitted_all fit (allowed ∷ argument_types) (word_forms (x ∷ xs))) ≡ with_item front (fit allowed x.text.now) (fitted_all fit argument_types (word_forms xs))
unfolding fitted_all word_forms
fitted_item front fit allowed argument_types x xs = with_front-followed_by front (fit allowed x.text.now) (fitted_all fit argument_types (word_forms xs))

pub ruleset fitted_steps = (item_steps, word_item_steps, front_none, fitted_end, fitted_item, item_none, item_some)

pub variable_named_in : (known : Known) (scope : Scope) (w : List ℕ) → is_variable w ≡ true → term_named known scope w ≡ variable_meant scope w
unfolding term_named
variable_named_in known scope w h = rw h refl

pub constant_unknown : (known : Known) (scope : Scope) (w : List ℕ) → is_variable w ≡ false → object_number known.objects w ≡ None → term_named known scope w ≡ None
unfolding term_named
constant_unknown known scope w h e = rw (h, e) refl

pub constant_known : (known : Known) (scope : Scope) (w : List ℕ) (number : ℕ) → is_variable w ≡ false → object_number known.objects w ≡ Some number →
    term_named known scope w ≡ Some (Object number)
unfolding term_named
constant_known known scope w number h e = rw (h, e) refl

pub ruleset term_steps = (variable_named_in, constant_unknown, constant_known)

pub term_missing : (known : Known) (scope : Scope) (allowed w : List ℕ) → term_named known scope w ≡ None → fitting_term known scope allowed w ≡ None
unfolding fitting_term term_fitted
term_missing known scope allowed w h = rw h refl

pub term_unfit : (known : Known) (scope : Scope) (allowed w : List ℕ) (term : Term) → term_named known scope w ≡ Some term →
    is_fitting known.parents (term_types known.objects scope.parameters.types scope.bound.types term) allowed ≡ false → fitting_term known scope allowed w ≡ None
unfolding fitting_term term_fitted guard
term_unfit known scope allowed w term h e = rw (h, e) refl

pub term_fit : (known : Known) (scope : Scope) (allowed w : List ℕ) (term : Term) → term_named known scope w ≡ Some term →
    is_fitting known.parents (term_types known.objects scope.parameters.types scope.bound.types term) allowed ≡ true → fitting_term known scope allowed w ≡ Some term
unfolding fitting_term term_fitted guard
term_fit known scope allowed w term h e = rw (h, e) refl

pub ruleset fitting_term_steps = (term_missing, term_unfit, term_fit)
