-- Names declared in tables and found there, one equation for each case.

use Rattle.std.proofs.Common.{◌≡◌, ℕ, ◌<◌, ◌≤◌, ◌&&◌, Bool, true, false, nat_eq, nat_lt, is_none, is_some, List, length, Option, Some, None, refl, ap, ◌∙◌, arith}
use Rattle.std.proofs.lemmas.Bool.{le-ltb, lt-ltb}
use Rattle.std.proofs.lemmas.List.{length-map}
use Rattle.std.proofs.lemmas.Option.{slice_get-map, slice_get_within}
use Rattle.std.specs.List.{slice_get}
use Rattle.std.specs.Map.{values_of}
use Rattle.pddl_words.specs.Words.{folded}
use Rattle.strips_task.specs.Names.{number_named}
use Rattle.pddl_syntax.specs.Optional.{guard}
use Rattle.pddl_reader.specs.Declarations.{Predicates, may_declare, are_as_many, takes_terms, predicate_taking, predicate_number}
use Rattle.pddl_syntax.specs.declared.syntax.AtomSyntax.{AtomSyntax}
use Rattle.pddl_syntax.specs.declared.walk.Word.{Word}
use Rattle.pddl_syntax.specs.Forms.{atom_form, word_forms}
use Rattle.pddl_syntax.proofs.Guards.{guard_held}
use Rattle.pddl_reader.specs.Tables.{value_at, value_named}

-- a name that an entry has may not be declared
pub may_not_again : {V : Type 0} (most : ℕ) (table : List (List ℕ × V)) (name : List ℕ) → is_some (number_named table name) ≡ true → may_declare most table name ≡ false
unfolding may_declare
may_not_again most table name h = by (number_named table name) h
  where
    by : (found : Option ℕ) → is_some found ≡ true → (is_none found && nat_lt (length table) most) ≡ false
    by None h = cc
    by (Some n) h = refl

pub may_not_more : {V : Type 0} (most : ℕ) (table : List (List ℕ × V)) (name : List ℕ) → most ≤ length table → may_declare most table name ≡ false
unfolding may_declare
may_not_more most table name h = rw (le-ltb (length table) most h) (by (is_none (number_named table name)))
  where
    by : (test : Bool) → (test && false) ≡ false
    by true = refl
    by false = refl

pub may_if : {V : Type 0} (most : ℕ) (table : List (List ℕ × V)) (name : List ℕ) → is_some (number_named table name) ≡ false → length table < most → may_declare most table name ≡ true
unfolding may_declare
may_if most table name h lt = rw (lt-ltb (length table) most lt) (by (number_named table name) h)
  where
    by : (found : Option ℕ) → is_some found ≡ false → (is_none found && true) ≡ true
    by None h = refl
    by (Some n) h = cc

pub ruleset may_steps = (may_not_again, may_not_more, may_if)

-- words and their texts are as many
pub words_counted : (ws : List Word) → length (word_forms ws) ≡ length ws
unfolding word_forms
words_counted ws = length-map ws (λ (w : Word). w.text.now)

pub number_unknown : (predicates : Predicates) (a : AtomSyntax) → number_named predicates (folded a.predicate.text.now) ≡ None →
    predicate_number predicates (atom_form a) ≡ None
unfolding predicate_number predicate_taking
number_unknown predicates a h = rw h refl

pub number_wrong : (predicates : Predicates) (a : AtomSyntax) (number : ℕ) → number_named predicates (folded a.predicate.text.now) ≡ Some number →
    takes_terms predicates number (length a.terms.items) ≡ false → predicate_number predicates (atom_form a) ≡ None
unfolding predicate_number predicate_taking guard
number_wrong predicates a number h e = rw (h, words_counted a.terms.items, e) refl

pub number_right : (predicates : Predicates) (a : AtomSyntax) (number : ℕ) → number_named predicates (folded a.predicate.text.now) ≡ Some number →
    takes_terms predicates number (length a.terms.items) ≡ true → predicate_number predicates (atom_form a) ≡ Some number
unfolding predicate_number predicate_taking guard
number_right predicates a number h e = rw (h, words_counted a.terms.items, e) refl

pub ruleset number_steps = (number_unknown, number_wrong, number_right)

taken : (predicates : Predicates) (named : Option ℕ) (count number : ℕ) → predicate_taking predicates count named ≡ Some number → takes_terms predicates number count ≡ true
unfolding predicate_taking
taken predicates None count number h = cc
taken predicates (Some found) count number h =
    let held = guard_held (takes_terms predicates found count) found number h in
    rw (← held.1) held.0

-- the predicate of an atom takes as many terms
pub number_taken : (predicates : Predicates) (a : AtomSyntax) (number : ℕ) → predicate_number predicates (atom_form a) ≡ Some number →
    takes_terms predicates number (length a.terms.items) ≡ true
unfolding predicate_number
number_taken predicates a number h =
    rw (← words_counted a.terms.items) (taken predicates (number_named predicates (folded a.predicate.text.now)) (length (word_forms a.terms.items)) number h)

-- a predicate that takes terms is one of the table
pub taken_within : (predicates : Predicates) (number count : ℕ) → takes_terms predicates number count ≡ true → number < length predicates
unfolding takes_terms
taken_within predicates number count h = by (slice_get (values_of predicates) number) refl h
  where
    by : (found : Option (List (List ℕ))) → slice_get (values_of predicates) number ≡ found → are_as_many found count ≡ true → number < length predicates
    by None e k = cc
    by (Some argument_types) e k =
        let lt : number < length (values_of predicates) = slice_get_within (values_of predicates) number argument_types e in
        let same : length (values_of predicates) ≡ length predicates = length-map predicates (λ (e : List ℕ × List (List ℕ)). e.1) in
        omega arith

-- the argument types of a predicate are those of its entry
pub argument_types_counted : (predicates : Predicates) (number count : ℕ) (name : List ℕ) (argument_types : List (List ℕ)) →
    slice_get predicates number ≡ Some (name, argument_types) → takes_terms predicates number count ≡ nat_eq (length argument_types) count
unfolding takes_terms
argument_types_counted predicates number count name argument_types h = rw (slice_get-map (λ (e : List ℕ × List (List ℕ)). e.1) predicates number, h) refl

pub value_unnamed : {V : Type 0} (table : List (List ℕ × V)) (name : List ℕ) → number_named table name ≡ None → value_named table name ≡ None
unfolding value_named value_at
value_unnamed table name h = rw h refl

pub value_numbered : {V : Type 0} (table : List (List ℕ × V)) (name key : List ℕ) (number : ℕ) (value : V) → number_named table name ≡ Some number →
    slice_get table number ≡ Some (key, value) → value_named table name ≡ Some value
unfolding value_named value_at
value_numbered {V} table name key number value h e = rw (h, slice_get-map (λ (entry : List ℕ × V). entry.1) table number, e) refl

pub argument_types_at : (predicates : Predicates) (number : ℕ) (name : List ℕ) (argument_types : List (List ℕ)) → slice_get predicates number ≡ Some (name, argument_types) →
    slice_get (values_of predicates) number ≡ Some argument_types
argument_types_at predicates number name argument_types h = rw (slice_get-map (λ (e : List ℕ × List (List ℕ)). e.1) predicates number, h) refl

-- a word in lower case that names an entry names it in any case
pub named_as_written : {V : Type 0} (table : List (List ℕ × V)) (word : List ℕ) (number : ℕ) → number_named table word ≡ Some number →
    folded word ≡ word → number_named table (folded word) ≡ Some number
named_as_written table word number named low = ap (number_named table) low ∙ named
