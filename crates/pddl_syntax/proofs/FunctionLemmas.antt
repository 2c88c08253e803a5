-- The definitions of the declarations of functions, one equation for each case.

use Rattle.std.proofs.Common.{◌≡◌, ◌<◌, ℕ, ◌+◌, Bool, true, false, List, Some, None, refl, arith}
use Rattle.std.proofs.lemmas.List.{append-nil}
use Rattle.pddl_words.specs.Kinds.{is_same_word}
use Rattle.pddl_syntax.specs.Heads.{is_dash}
use Rattle.pddl_syntax.specs.Keywords.{number_word}
use Rattle.pddl_syntax.specs.Optional.{guard, with_front}
use Rattle.pddl_syntax.specs.Sizes.{size}
use Rattle.pddl_syntax.specs.Trees.{Trees, none, word, list}
use Rattle.pddl_syntax.specs.Syntax.{PredicateForm, behind_word, predicate_in, functions_of, functions_typed}
use Rattle.pddl_syntax.proofs.DomainLemmas.{no_predicates, predicate_forms-push}
use Rattle.pddl_syntax.proofs.ListsOf.{with_item, with_front-followed_by, item_none, item_some, front_none}

pub functions_end : (front : List PredicateForm) (some : Bool) → with_front front (functions_of some none) ≡ Some front
unfolding functions_of with_front
functions_end front some = rw append-nil refl

pub functions_list : (front : List PredicateForm) (some : Bool) (k f : Trees) →
    with_front front (functions_of some (list k f)) ≡ with_item front (predicate_in k) (functions_of true f)
unfolding functions_of
functions_list front some k f = with_front-followed_by front (predicate_in k) (functions_of true f)

pub functions_none : (front : List PredicateForm) (w : List ℕ) (f : Trees) → with_front front (functions_of false (word w f)) ≡ None
unfolding functions_of guard with_front
functions_none front w f = refl

pub functions_other : (front : List PredicateForm) (some : Bool) (w : List ℕ) (f : Trees) → is_dash w ≡ false →
    with_front front (functions_of some (word w f)) ≡ None
unfolding functions_of guard with_front
functions_other front true w f h = rw h refl
functions_other front false w f h = refl

functions_behind_dash : (some : Bool) (w : List ℕ) (f : Trees) → some ≡ true → is_dash w ≡ true → functions_of some (word w f) ≡ functions_typed f
unfolding functions_of guard
functions_behind_dash some w f h e = rw (h, e) refl

no_functions_typed : (f : Trees) → behind_word number_word f ≡ None → functions_typed f ≡ None
unfolding functions_typed behind_word guard
no_functions_typed none h = refl
no_functions_typed (word w f) h = by (is_same_word w number_word) h
  where
    by : (same : Bool) → guard same (Some f) ≡ None → guard same (functions_of false f) ≡ None
    by true h = cc
    by false h = refl
no_functions_typed (list k f) h = refl

some_functions_typed : (f g : Trees) → behind_word number_word f ≡ Some g → functions_typed f ≡ functions_of false g
unfolding functions_typed behind_word guard
some_functions_typed none g h = cc
some_functions_typed (word w f) g h = by (is_same_word w number_word) h
  where
    by : (same : Bool) → guard same (Some f) ≡ Some g → guard same (functions_of false f) ≡ functions_of false g
    by true h = let e : f ≡ g = cc in rw e refl
    by false h = cc
some_functions_typed (list k f) g h = cc

pub functions_untyped : (front : List PredicateForm) (some : Bool) (w : List ℕ) (f : Trees) → some ≡ true → is_dash w ≡ true →
    behind_word number_word f ≡ None → with_front front (functions_of some (word w f)) ≡ None
unfolding with_front
functions_untyped front some w f h d e = rw (functions_behind_dash some w f h d, no_functions_typed f e) refl

pub functions_numbers : (front : List PredicateForm) (some : Bool) (w : List ℕ) (f g : Trees) → some ≡ true → is_dash w ≡ true →
    behind_word number_word f ≡ Some g → with_front front (functions_of some (word w f)) ≡ with_front front (functions_of false g)
functions_numbers front some w f g h d e = rw (functions_behind_dash some w f h d, some_functions_typed f g e) refl

-- what follows a word is smaller
pub smaller_behind : (expected : List ℕ) (f g : Trees) → behind_word expected f ≡ Some g → size g < size f
unfolding behind_word guard
smaller_behind expected none g h = cc
smaller_behind expected (word w f) g h = by (is_same_word w expected) h
  where
    by : (same : Bool) → guard same (Some f) ≡ Some g → size g < 1 + size f
    by true h = let e : f ≡ g = cc in rw e (omega arith)
    by false h = cc
smaller_behind expected (list k f) g h = cc

pub ruleset functions_steps = (no_predicates, predicate_forms-push, front_none, item_none, item_some, functions_end, functions_list, functions_none, functions_other, functions_untyped, functions_numbers, smaller_behind)
