-- The declarations of a domain, one equation for each case.

use Rattle.std.proofs.Common.{◌≡◌, ℕ, ◌<◌, ◌≤◌, ◌++◌, true, false, ◌&&◌, nat_lt, is_none, List, [], ◌∷◌, length, Option, Some, None, refl, arith, length-append}
use Rattle.std.proofs.lemmas.Bool.{ltb-true, and_parts}
use Rattle.pddl_words.specs.Words.{folded}
use Rattle.strips_task.specs.Names.{number_named}
use Rattle.pddl_syntax.specs.declared.syntax.PredicateSyntax.{PredicateSyntax}
use Rattle.pddl_syntax.specs.Optional.{guard, through}
use Rattle.pddl_syntax.specs.Forms.{predicate_form, predicate_forms}
use Rattle.pddl_reader.specs.Declarations.{Predicates, may_declare, declared}
use Rattle.pddl_reader.specs.Domain.{declared_predicate, with_predicate, predicates_from}
use Rattle.pddl_reader.specs.Variables.{argument_types_of}
use Rattle.pddl_reader.proofs.Through.{through_behind, through_item, through_end}
use Rattle.pddl_syntax.specs.Syntax.{PredicateForm}

pub predicate_refused : (types : List (List ℕ)) (table : Predicates) (p : PredicateForm) → may_declare 4096 table (folded p.name) ≡ false → with_predicate types table p ≡ None
unfolding with_predicate declared_predicate declared guard
predicate_refused types table p h = by (argument_types_of types p.variables)
  where
    by : (argument_types : Option (List (List ℕ))) → declared_predicate table (folded p.name) argument_types ≡ None
    by None = refl
    by (Some ps) = rw h refl

pub predicate_untyped : (types : List (List ℕ)) (table : Predicates) (p : PredicateForm) → argument_types_of types p.variables ≡ None → with_predicate types table p ≡ None
unfolding with_predicate declared_predicate
predicate_untyped types table p h = rw h refl

pub predicate_declared : (types : List (List ℕ)) (table : Predicates) (p : PredicateForm) (argument_types : List (List ℕ)) → may_declare 4096 table (folded p.name) ≡ true →
    argument_types_of types p.variables ≡ Some argument_types → with_predicate types table p ≡ Some (table ++ (folded p.name, argument_types) ∷ [])
unfolding with_predicate declared_predicate declared guard
predicate_declared types table p argument_types h e = rw (e, h) refl

pub predicates_item : {S : Type 0} (step : S → PredicateForm → Option S) (state : S) (x : PredicateSyntax) (xs : List PredicateSyntax) →
    through step state (predicate_forms (x ∷ xs)) ≡ through_behind step (step state (predicate_form x)) (predicate_forms xs)
unfolding predicate_forms
predicates_item step state x xs = through_item step state (predicate_form x) (predicate_forms xs)

pub predicates_end : {S : Type 0} (step : S → PredicateForm → Option S) (state : S) → through step state (predicate_forms []) ≡ Some state
unfolding predicate_forms
predicates_end step state = through_end step state

pub predicates_start : (types : List (List ℕ)) (table : Predicates) (ps : List PredicateForm) → predicates_from types table ps ≡ through (with_predicate types) table ps
unfolding predicates_from
predicates_start types table ps = refl

-- a name that may be declared is new
pub may_declare_new : {V : Type 0} (most : ℕ) (table : List (List ℕ × V)) (name : List ℕ) → may_declare most table name ≡ true → number_named table name ≡ None
unfolding may_declare
may_declare_new most table name h = by (number_named table name) h
  where
    by : (found : Option ℕ) → (is_none found && nat_lt (length table) most) ≡ true → found ≡ None
    by None h = refl
    by (Some n) h = cc

-- the table has room for the name
pub may_declare_length : {V : Type 0} (most : ℕ) (table : List (List ℕ × V)) (name : List ℕ) (value : V) → may_declare most table name ≡ true →
    length (table ++ (name, value) ∷ []) ≤ most
unfolding may_declare
may_declare_length most table name value h =
    let lt : length table < most = ltb-true (length table) most (and_parts (is_none (number_named table name)) (nat_lt (length table) most) h).1 in
    rw length-append (omega arith)

pub ruleset predicate_steps = (may_declare_new, predicate_refused, predicate_untyped, predicate_declared)

pub ruleset predicates_steps = (predicates_item, predicates_end, predicates_start)
