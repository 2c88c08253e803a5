-- Atoms, functions, equalities, numbers and what raises costs, one equation for each case.

use Rattle.std.proofs.Common.{◌≡◌, ℕ, Bool, true, false, List, Option, Some, None, refl, arith}
use Rattle.std.specs.Option.{option_map, option_and_then}
use Rattle.pddl_syntax.specs.declared.heads.Scope.{Scope}
use Rattle.pddl_syntax.specs.declared.heads.FormulaHead.TheVariants as formula
use Rattle.pddl_syntax.specs.declared.heads.ListHead.{ListHead}
use Rattle.pddl_syntax.specs.declared.heads.ListHead.TheVariants as head
use Rattle.pddl_words.specs.Words.{is_name}
use Rattle.pddl_words.specs.Kinds.{is_same_word}
use Rattle.pddl_words.specs.DecimalReading.{billionths_of}
use Rattle.pddl_syntax.specs.Heads.{formula_head, is_atom_head, is_term, list_head}
use Rattle.pddl_syntax.specs.Keywords.{total_cost_word}
use Rattle.pddl_syntax.specs.Optional.{guard}
use Rattle.pddl_syntax.specs.Trees.{Trees, none, word, list, begins_with_list}
use Rattle.pddl_syntax.specs.Syntax.{AtomForm, EqualityForm, AmountForm, number_amount, function_amount, ended, end_of, first_list, words_of, atom_with, atom_of, function_in, leading_word, equality_with, right_side, equality_of, number_of, amount_of, target_of, increase_of, value_by, value_of, value_with, negated_atom_in, negated_atom_of}

-- a predicate is a name
pub head_is_name : (w : List ℕ) → formula_head w ≡ formula.Name → is_name w ≡ true
unfolding formula_head
head_is_name w h = grind arith

-- the head of an atom is a name
pub atom_named : (scope : Scope) (w : List ℕ) (opens : Bool) → list_head scope w opens ≡ head.Atom → is_name w ≡ true
unfolding list_head
atom_named scope w opens h = grind (arith, head_is_name)

pub atom_none : (test : List ℕ → Bool) (w : List ℕ) (f : Trees) → words_of test f ≡ None → atom_of test w f ≡ None
unfolding atom_of
atom_none test w f h = rw h refl

pub atom_some : (test : List ℕ → Bool) (w : List ℕ) (f : Trees) (terms : List (List ℕ)) → words_of test f ≡ Some terms → atom_of test w f ≡ Some (atom_with w terms)
unfolding atom_of
atom_some test w f terms h = rw h refl

pub ruleset atom_steps = (atom_none, atom_some)

pub function_none : (test : List ℕ → Bool) → function_in test none ≡ None
unfolding function_in
function_none test = refl

pub function_list : (test : List ℕ → Bool) (k f : Trees) → function_in test (list k f) ≡ None
unfolding function_in
function_list test k f = refl

pub function_name : (test : List ℕ → Bool) (w : List ℕ) (f : Trees) → formula_head w ≡ formula.Name → function_in test (word w f) ≡ atom_of test w f
unfolding function_in
function_name test w f h = rw h refl

pub function_and : (test : List ℕ → Bool) (w : List ℕ) (f : Trees) → formula_head w ≡ formula.And → function_in test (word w f) ≡ None
unfolding function_in
function_and test w f h = rw h refl

pub function_not : (test : List ℕ → Bool) (w : List ℕ) (f : Trees) → formula_head w ≡ formula.Not → function_in test (word w f) ≡ None
unfolding function_in
function_not test w f h = rw h refl

pub function_reserved : (test : List ℕ → Bool) (w : List ℕ) (f : Trees) → formula_head w ≡ formula.Reserved → function_in test (word w f) ≡ None
unfolding function_in
function_reserved test w f h = rw h refl

pub function_other : (test : List ℕ → Bool) (w : List ℕ) (f : Trees) → formula_head w ≡ formula.Other → function_in test (word w f) ≡ None
unfolding function_in
function_other test w f h = rw h refl

pub ruleset function_steps = (head_is_name, function_none, function_list, function_name, function_and, function_not, function_reserved, function_other)

pub leading_none : (test : List ℕ → Bool) → leading_word test none ≡ None
unfolding leading_word
leading_none test = refl

pub leading_list : (test : List ℕ → Bool) (k f : Trees) → leading_word test (list k f) ≡ None
unfolding leading_word
leading_list test k f = refl

pub leading_other : (test : List ℕ → Bool) (w : List ℕ) (f : Trees) → test w ≡ false → leading_word test (word w f) ≡ None
unfolding leading_word guard
leading_other test w f h = rw h refl

pub ruleset side_steps = (leading_none, leading_list, leading_other)

guarded_none : {A : Type 0} (test : Bool) → guard {A = A} test None ≡ None
unfolding guard
guarded_none true = refl
guarded_none false = refl

pub no_left : (test : List ℕ → Bool) (f : Trees) → leading_word test f ≡ None → equality_of test f ≡ None
unfolding equality_of leading_word guard
no_left test none h = refl
no_left test (word w f) h = by (test w) h
  where
    by : (passes : Bool) → guard passes (Some w) ≡ None → guard passes (right_side test w f) ≡ None
    by true h = cc
    by false h = refl
no_left test (list k f) h = refl

pub no_right : (test : List ℕ → Bool) (l : List ℕ) (f : Trees) → leading_word test f ≡ None → equality_of test (word l f) ≡ None
unfolding equality_of right_side leading_word guard
no_right test l none h = guarded_none {A = EqualityForm} (test l)
no_right test l (word w f) h = by (test l) (test w) h
  where
    by : (first second : Bool) → guard second (Some w) ≡ None → guard first (guard second (ended f (Some (equality_with l w)))) ≡ None
    by true true h = cc
    by true false h = refl
    by false second h = refl
no_right test l (list k f) h = guarded_none {A = EqualityForm} (test l)

pub third_side : (test : List ℕ → Bool) (l r : List ℕ) (f : Trees) → end_of f ≡ None → equality_of test (word l (word r f)) ≡ None
unfolding equality_of right_side end_of ended
third_side test l r none h = cc
third_side test l r (word w f) h = rw (guarded_none {A = EqualityForm} (test r), guarded_none {A = EqualityForm} (test l)) refl
third_side test l r (list k f) h = rw (guarded_none {A = EqualityForm} (test r), guarded_none {A = EqualityForm} (test l)) refl

pub two_sides : (test : List ℕ → Bool) (l r : List ℕ) (f : Trees) → test l ≡ true → test r ≡ true → end_of f ≡ Some tt →
    equality_of test (word l (word r f)) ≡ Some (equality_with l r)
unfolding equality_of right_side end_of ended guard
two_sides test l r none h e s = rw (h, e) refl
two_sides test l r (word w f) h e s = cc
two_sides test l r (list k f) h e s = cc

pub ruleset equality_steps = (no_left, no_right, third_side, two_sides)

pub no_number_none : number_of none ≡ None
unfolding number_of
no_number_none = refl

pub no_number_list : (k f : Trees) → number_of (list k f) ≡ None
unfolding number_of
no_number_list k f = refl

pub no_number : (w : List ℕ) (f : Trees) → billionths_of w ≡ None → number_of (word w f) ≡ None
unfolding number_of ended
no_number w none h = h
no_number w (word v f) h = refl
no_number w (list k f) h = refl

pub number_more : (w : List ℕ) (f : Trees) → end_of f ≡ None → number_of (word w f) ≡ None
unfolding number_of end_of ended
number_more w none h = cc
number_more w (word v f) h = refl
number_more w (list k f) h = refl

pub number_alone : (w : List ℕ) (f : Trees) → end_of f ≡ Some tt → number_of (word w f) ≡ billionths_of w
unfolding number_of end_of ended
number_alone w none h = refl
number_alone w (word v f) h = cc
number_alone w (list k f) h = cc

pub ruleset number_steps = (no_number_none, no_number_list, no_number, number_more, number_alone)

pub no_target_none : target_of none ≡ None
unfolding target_of
no_target_none = refl

pub no_target_list : (k f : Trees) → target_of (list k f) ≡ None
unfolding target_of
no_target_list k f = refl

pub other_target : (w : List ℕ) (f : Trees) → is_same_word w total_cost_word ≡ false → target_of (word w f) ≡ None
unfolding target_of guard
other_target w f h = rw h refl

pub target_more : (w : List ℕ) (f : Trees) → end_of f ≡ None → target_of (word w f) ≡ None
unfolding target_of
target_more w f h = rw (h, guarded_none {A = Unit {0}} (is_same_word w total_cost_word)) refl

pub target_alone : (w : List ℕ) (f : Trees) → is_same_word w total_cost_word ≡ true → end_of f ≡ Some tt → target_of (word w f) ≡ Some tt
unfolding target_of guard
target_alone w f h e = rw (h, e) refl

pub ruleset target_steps = (no_target_none, no_target_list, other_target, target_more, target_alone)

pub no_amount : (test : List ℕ → Bool) → amount_of test none ≡ None
unfolding amount_of
no_amount test = refl

pub amount_no_number : (test : List ℕ → Bool) (w : List ℕ) (f : Trees) → billionths_of w ≡ None → amount_of test (word w f) ≡ None
unfolding amount_of
amount_no_number test w f h = rw (no_number w f h) refl

pub amount_number_more : (test : List ℕ → Bool) (w : List ℕ) (f : Trees) → end_of f ≡ None → amount_of test (word w f) ≡ None
unfolding amount_of
amount_number_more test w f h = rw (number_more w f h) refl

pub amount_number : (test : List ℕ → Bool) (w : List ℕ) (f : Trees) (n : ℕ) → billionths_of w ≡ Some n → end_of f ≡ Some tt → amount_of test (word w f) ≡ Some (number_amount n)
unfolding amount_of
amount_number test w f n h e = rw (number_alone w f e, h) refl

pub amount_no_function : (test : List ℕ → Bool) (k f : Trees) → function_in test k ≡ None → amount_of test (list k f) ≡ None
unfolding amount_of ended
amount_no_function test k none h = rw h refl
amount_no_function test k (word w f) h = refl
amount_no_function test k (list j f) h = refl

pub amount_more : (test : List ℕ → Bool) (k f : Trees) → end_of f ≡ None → amount_of test (list k f) ≡ None
unfolding amount_of end_of ended
amount_more test k none h = cc
amount_more test k (word w f) h = refl
amount_more test k (list j f) h = refl

pub amount_function : (test : List ℕ → Bool) (k f : Trees) (a : AtomForm) → function_in test k ≡ Some a → end_of f ≡ Some tt → amount_of test (list k f) ≡ Some (function_amount a)
unfolding amount_of end_of ended
amount_function test k none a h e = rw h refl
amount_function test k (word w f) a h e = cc
amount_function test k (list j f) a h e = cc

pub ruleset amount_steps = (no_amount, amount_no_number, amount_number_more, amount_number, amount_no_function, amount_more, amount_function)

pub increase_no_list : (test : List ℕ → Bool) (f : Trees) → first_list f ≡ None → increase_of test f ≡ None
unfolding increase_of first_list
increase_no_list test none h = refl
increase_no_list test (word w f) h = refl
increase_no_list test (list k f) h = cc

pub increase_no_target : (test : List ℕ → Bool) (k f : Trees) → target_of k ≡ None → increase_of test (list k f) ≡ None
unfolding increase_of
increase_no_target test k f h = rw h refl

pub increase_by : (test : List ℕ → Bool) (k f : Trees) → target_of k ≡ Some tt → increase_of test (list k f) ≡ amount_of test f
unfolding increase_of
increase_by test k f h = rw h refl

pub ruleset increase_steps = (increase_no_list, increase_no_target, increase_by)

pub value_no_list : (test : List ℕ → Bool) (f : Trees) → first_list f ≡ None → value_of test f ≡ None
unfolding value_of first_list
value_no_list test none h = refl
value_no_list test (word w f) h = refl
value_no_list test (list k f) h = cc

pub value_no_function : (test : List ℕ → Bool) (k f : Trees) → function_in test k ≡ None → value_of test (list k f) ≡ None
unfolding value_of
value_no_function test k f h = rw h refl

pub value_no_number : (test : List ℕ → Bool) (k f : Trees) → number_of f ≡ None → value_of test (list k f) ≡ None
unfolding value_of
value_no_number test k f h = rw h (by (function_in test k))
  where
    by : (read : Option AtomForm) → value_by read None ≡ None
    by None = refl
    by (Some a) = refl

pub value_number : (test : List ℕ → Bool) (k f : Trees) (a : AtomForm) (n : ℕ) → function_in test k ≡ Some a → number_of f ≡ Some n → value_of test (list k f) ≡ Some (value_with a n)
unfolding value_of
value_number test k f a n h e = rw (h, e) refl

pub ruleset value_steps = (value_no_list, value_no_function, value_no_number, value_number)

pub negated_in_none : (scope : Scope) → negated_atom_in scope none ≡ None
unfolding negated_atom_in
negated_in_none scope = refl

pub negated_in_list : (scope : Scope) (k f : Trees) → negated_atom_in scope (list k f) ≡ None
unfolding negated_atom_in
negated_in_list scope k f = refl

pub negated_in_atom : (scope : Scope) (w : List ℕ) (f : Trees) → list_head scope w (begins_with_list f) ≡ head.Atom →
    negated_atom_in scope (word w f) ≡ atom_of (is_term scope.context) w f
unfolding negated_atom_in guard
negated_in_atom scope w f h = rw h refl

-- no other word is before an atom
pub negated_in_other : (scope : Scope) (w : List ℕ) (f : Trees) (found : ListHead) → list_head scope w (begins_with_list f) ≡ found → is_atom_head found ≡ false →
    negated_atom_in scope (word w f) ≡ None
unfolding negated_atom_in guard
negated_in_other scope w f found h e = rw (h, e) refl

pub ruleset negated_in_steps = (atom_named, negated_in_none, negated_in_list, negated_in_atom, negated_in_other)

pub negated_no_list : (scope : Scope) (f : Trees) → first_list f ≡ None → negated_atom_of scope f ≡ None
unfolding first_list negated_atom_of
negated_no_list scope none h = refl
negated_no_list scope (word w f) h = refl
negated_no_list scope (list k f) h = cc

pub negated_refused : (scope : Scope) (k f : Trees) → negated_atom_in scope k ≡ None → negated_atom_of scope (list k f) ≡ None
unfolding negated_atom_of ended
negated_refused scope k none h = h
negated_refused scope k (word w f) h = refl
negated_refused scope k (list j f) h = refl

pub negated_more : (scope : Scope) (k f : Trees) → end_of f ≡ None → negated_atom_of scope (list k f) ≡ None
unfolding negated_atom_of end_of ended
negated_more scope k none h = cc
negated_more scope k (word w f) h = refl
negated_more scope k (list j f) h = refl

pub negated_alone : (scope : Scope) (k f : Trees) → end_of f ≡ Some tt → negated_atom_of scope (list k f) ≡ negated_atom_in scope k
unfolding negated_atom_of end_of ended
negated_alone scope k none e = refl
negated_alone scope k (word w f) e = cc
negated_alone scope k (list j f) e = cc

pub ruleset negated_steps = (negated_no_list, negated_refused, negated_more, negated_alone)
