-- Patterns and ground atoms, one equation for each case.

use Rattle.std.proofs.Common.{◌≡◌, ℕ, List, Some, None, refl}
use Rattle.std.specs.List.{slice_get}
use Rattle.std.specs.Map.{values_of}
use Rattle.formulas.specs.declared.terms.Term.{Term}
use Rattle.pddl_syntax.specs.declared.syntax.AtomSyntax.{AtomSyntax}
use Rattle.pddl_reader.specs.Declarations.{Known, fitted_all, fitted_arguments, predicate_number, fitting_object, fitting_term, pattern_by, pattern_of, ground_by, ground_of}
use Rattle.pddl_syntax.specs.Forms.{atom_form, word_forms}
use Rattle.pddl_reader.specs.Scopes.{Scope}
use Rattle.pddl_reader.proofs.TableLemmas.{number_taken, taken_within}

pub ruleset argument_types_steps = (taken_within)

pub ground_unnumbered : (known : Known) (a : AtomSyntax) → predicate_number known.predicates (atom_form a) ≡ None → ground_of known (atom_form a) ≡ None
unfolding ground_of ground_by
ground_unnumbered known a h = rw h refl

pub ground_unfit : (known : Known) (a : AtomSyntax) (number : ℕ) (argument_types : List (List ℕ)) → predicate_number known.predicates (atom_form a) ≡ Some number →
    slice_get (values_of known.predicates) number ≡ Some argument_types → fitted_all (fitting_object known) argument_types (word_forms a.terms.items) ≡ None →
    ground_of known (atom_form a) ≡ None
unfolding ground_of ground_by fitted_arguments
ground_unfit known a number argument_types h e k = rw (h, e, k) refl

pub ground_fit : (known : Known) (a : AtomSyntax) (number : ℕ) (argument_types : List (List ℕ)) (args : List ℕ) → predicate_number known.predicates (atom_form a) ≡ Some number →
    slice_get (values_of known.predicates) number ≡ Some argument_types → fitted_all (fitting_object known) argument_types (word_forms a.terms.items) ≡ Some args →
    ground_of known (atom_form a) ≡ Some (record { pred = number; args = args })
unfolding ground_of ground_by fitted_arguments
ground_fit known a number argument_types args h e k = rw (h, e, k) refl

pub ruleset ground_steps = (number_taken, ground_unnumbered, ground_unfit, ground_fit)

pub pattern_unnumbered : (known : Known) (scope : Scope) (a : AtomSyntax) → predicate_number known.predicates (atom_form a) ≡ None →
    pattern_of known scope (atom_form a) ≡ None
unfolding pattern_of pattern_by
pattern_unnumbered known scope a h = rw h refl

pub pattern_unfit : (known : Known) (scope : Scope) (a : AtomSyntax) (number : ℕ) (argument_types : List (List ℕ)) →
    predicate_number known.predicates (atom_form a) ≡ Some number → slice_get (values_of known.predicates) number ≡ Some argument_types →
    fitted_all (fitting_term known scope) argument_types (word_forms a.terms.items) ≡ None → pattern_of known scope (atom_form a) ≡ None
unfolding pattern_of pattern_by fitted_arguments
pattern_unfit known scope a number argument_types h e k = rw (h, e, k) refl

pub pattern_fit : (known : Known) (scope : Scope) (a : AtomSyntax) (number : ℕ) (argument_types : List (List ℕ)) (terms : List Term) →
    predicate_number known.predicates (atom_form a) ≡ Some number → slice_get (values_of known.predicates) number ≡ Some argument_types →
    fitted_all (fitting_term known scope) argument_types (word_forms a.terms.items) ≡ Some terms → pattern_of known scope (atom_form a) ≡ Some (record { pred = number; terms = terms })
unfolding pattern_of pattern_by fitted_arguments
pattern_fit known scope a number argument_types terms h e k = rw (h, e, k) refl

pub ruleset pattern_steps = (number_taken, pattern_unnumbered, pattern_unfit, pattern_fit)
