-- Tables of declared names, and the atoms that use them.

use Rattle.std.specs.Prelude.{if◌then◌else◌, ℕ, Bool, false, ◌&&◌, nat_eq, nat_lt, is_none, List, [], ◌∷◌, ◌++◌, length, slice_get, Option, Some, None}
use Rattle.std.specs.Option.{option_map}
use Rattle.std.specs.Map.{values_of}
use Rattle.pddl_words.specs.Words.{folded}
use Rattle.formulas.specs.declared.atoms.Atom.{Atom}
use Rattle.formulas.specs.declared.terms.Pattern.{Pattern}
use Rattle.formulas.specs.declared.terms.Term.{Term}
use Rattle.formulas.specs.declared.terms.Term.TheVariants.{Object}
use Rattle.strips_task.specs.WellFormed.{is_fitting, term_types}
use Rattle.pddl_syntax.specs.Heads.{is_variable}
use Rattle.pddl_reader.specs.Objects.{Objects}
use Rattle.pddl_reader.specs.Scopes.{Scope, variable_meant}
use Rattle.strips_task.specs.Names.{number_named}
use Rattle.pddl_syntax.specs.Optional.{guard, followed_by}
use Rattle.pddl_syntax.specs.Syntax.{AtomForm}

-- the declared predicates: for each its name and, for each argument, the types that it may have
abbrev pub Predicates : Type 0
Predicates = List (List ℕ × List (List ℕ))

-- whether one more name may be declared: it is new, and there are fewer than the limit
unfoldable pub may_declare : {V : Type 0} → ℕ → List (List ℕ × V) → List ℕ → Bool
may_declare most table name = is_none (number_named table name) && nat_lt (length table) most

-- the table with one more entry
unfoldable pub declared : {V : Type 0} → ℕ → List (List ℕ × V) → List ℕ → V → Option (List (List ℕ × V))
declared most table name value = guard (may_declare most table name) (Some (table ++ (name, value) ∷ []))

-- whether there is a predicate, and it has `count` arguments
abbrev pub are_as_many : Option (List (List ℕ)) → ℕ → Bool
are_as_many None count = false
are_as_many (Some argument_types) count = nat_eq (length argument_types) count

-- whether the predicate with a number takes `count` terms
unfoldable pub takes_terms : Predicates → ℕ → ℕ → Bool
takes_terms predicates number count = are_as_many (slice_get (values_of predicates) number) count

-- the number of a predicate, if it is declared and takes `count` terms
unfoldable pub predicate_taking : Predicates → ℕ → Option ℕ → Option ℕ
predicate_taking predicates count None = None
predicate_taking predicates count (Some number) = guard (takes_terms predicates number count) (Some number)

-- the number of an atom's predicate, if it takes as many terms as the atom has
unfoldable pub predicate_number : Predicates → AtomForm → Option ℕ
predicate_number predicates atom = predicate_taking predicates (length atom.terms) (number_named predicates (folded atom.predicate))

-- what atoms may name: types with their order, objects and predicates
pub record Known : Type 0 where
  pub parents : List ℕ
  pub objects : Objects
  pub predicates : Predicates

-- what each word stands for, if there are as many words as arguments and each fits its argument
unfoldable pub fitted_all : {A : Type 0} → (List ℕ → List ℕ → Option A) → List (List ℕ) → List (List ℕ) → Option (List A)
fitted_all fit [] [] = Some []
fitted_all fit [] (word ∷ words) = None
fitted_all fit (allowed ∷ argument_types) [] = None
fitted_all fit (allowed ∷ argument_types) (word ∷ words) = followed_by (fit allowed word) (fitted_all fit argument_types words)

-- what the words stand for, if there is such a predicate and each word fits its argument
unfoldable pub fitted_arguments : {A : Type 0} → (List ℕ → List ℕ → Option A) → Option (List (List ℕ)) → List (List ℕ) → Option (List A)
fitted_arguments fit None words = None
fitted_arguments fit (Some argument_types) words = fitted_all fit argument_types words

-- the number of the object that a word names
unfoldable pub object_number : Objects → List ℕ → Option ℕ
object_number objects word = number_named objects (folded word)

-- the term that a word stands for: a variable or an object
unfoldable pub term_named : Known → Scope → List ℕ → Option Term
term_named known scope word =
    (if is_variable word then variable_meant scope word else option_map (λ number. Object number) (object_number known.objects word))

-- a term that fits its argument: each of its types is below some type that the argument may have
unfoldable pub term_fitted : Known → Scope → List ℕ → Option Term → Option Term
term_fitted known scope allowed None = None
term_fitted known scope allowed (Some term) =
    guard (is_fitting known.parents (term_types known.objects scope.parameters.types scope.bound.types term) allowed) (Some term)

-- the term that a word stands for, if it fits its argument
unfoldable pub fitting_term : Known → Scope → List ℕ → List ℕ → Option Term
fitting_term known scope allowed word = term_fitted known scope allowed (term_named known scope word)

-- an object that fits its argument
unfoldable pub object_fitted : Known → List ℕ → Option ℕ → Option ℕ
object_fitted known allowed None = None
object_fitted known allowed (Some number) = guard (is_fitting known.parents (term_types known.objects [] [] (Object number)) allowed) (Some number)

-- the object that a word names, if it fits its argument
unfoldable pub fitting_object : Known → List ℕ → List ℕ → Option ℕ
fitting_object known allowed word = object_fitted known allowed (object_number known.objects word)

-- a pattern of a predicate and terms
abbrev pub pattern_with : ℕ → List Term → Pattern
pattern_with number terms = record { pred = number; terms = terms }

-- a pattern of a predicate, if it is known, and of the terms that the words stand for
unfoldable pub pattern_by : Known → Scope → List (List ℕ) → Option ℕ → Option Pattern
pattern_by known scope words None = None
pattern_by known scope words (Some number) =
    option_map (pattern_with number) (fitted_arguments (fitting_term known scope) (slice_get (values_of known.predicates) number) words)

-- the pattern that an atom stands for
unfoldable pub pattern_of : Known → Scope → AtomForm → Option Pattern
pattern_of known scope atom = pattern_by known scope atom.terms (predicate_number known.predicates atom)

-- a ground atom of a predicate and objects
abbrev pub ground_with : ℕ → List ℕ → Atom
ground_with number args = record { pred = number; args = args }

-- a ground atom of a predicate, if it is known, and of the objects that the words name
unfoldable pub ground_by : Known → List (List ℕ) → Option ℕ → Option Atom
ground_by known words None = None
ground_by known words (Some number) =
    option_map (ground_with number) (fitted_arguments (fitting_object known) (slice_get (values_of known.predicates) number) words)

-- the ground atom that an atom of a problem stands for
unfoldable pub ground_of : Known → AtomForm → Option Atom
ground_of known atom = ground_by known atom.terms (predicate_number known.predicates atom)
