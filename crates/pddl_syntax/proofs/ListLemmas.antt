-- The definitions on the words of a list, one equation for each case.

use Rattle.std.proofs.Common.{◌≡◌, ℕ, Bool, true, false, List, Some, None, refl}
use Rattle.pddl_words.specs.Words.{is_name}
use Rattle.pddl_words.specs.Kinds.{is_same_word}
use Rattle.pddl_syntax.specs.Optional.{guard}
use Rattle.pddl_syntax.specs.Trees.{Trees, none, word, list}
use Rattle.pddl_syntax.specs.Syntax.{ended, end_of, first_list, behind_word, lone_name, header_of}

pub first_list_none : first_list none ≡ None
unfolding first_list
first_list_none = refl

pub first_list_word : (w : List ℕ) (f : Trees) → first_list (word w f) ≡ None
unfolding first_list
first_list_word w f = refl

pub ruleset first_list_steps = (first_list_none, first_list_word)

pub end_of_none : end_of none ≡ Some tt
unfolding end_of ended
end_of_none = refl

pub end_of_word : (w : List ℕ) (f : Trees) → end_of (word w f) ≡ None
unfolding end_of ended
end_of_word w f = refl

pub end_of_list : (k f : Trees) → end_of (list k f) ≡ None
unfolding end_of ended
end_of_list k f = refl

pub ruleset end_steps = (end_of_none, end_of_word, end_of_list)

pub behind_none : (expected : List ℕ) → behind_word expected none ≡ None
unfolding behind_word
behind_none expected = refl

pub behind_list : (expected : List ℕ) (k f : Trees) → behind_word expected (list k f) ≡ None
unfolding behind_word
behind_list expected k f = refl

pub behind_same : (expected w : List ℕ) (f : Trees) → is_same_word w expected ≡ true → behind_word expected (word w f) ≡ Some f
unfolding behind_word guard
behind_same expected w f h = rw h refl

pub behind_other : (expected w : List ℕ) (f : Trees) → is_same_word w expected ≡ false → behind_word expected (word w f) ≡ None
unfolding behind_word guard
behind_other expected w f h = rw h refl

pub ruleset word_steps = (behind_none, behind_list, behind_same, behind_other)

pub lone_none : lone_name none ≡ None
unfolding lone_name
lone_none = refl

pub lone_list : (k f : Trees) → lone_name (list k f) ≡ None
unfolding lone_name
lone_list k f = refl

pub lone_no_name : (w : List ℕ) (f : Trees) → is_name w ≡ false → lone_name (word w f) ≡ None
unfolding lone_name guard
lone_no_name w f h = rw h refl

guarded_none : (test : Bool) → guard {A = List ℕ} test None ≡ None
unfolding guard
guarded_none true = refl
guarded_none false = refl

pub lone_more : (w : List ℕ) (f : Trees) → end_of f ≡ None → lone_name (word w f) ≡ None
unfolding lone_name end_of ended guard
lone_more w none h = cc
lone_more w (word v f) h = guarded_none (is_name w)
lone_more w (list k f) h = guarded_none (is_name w)

pub lone_end : (w : List ℕ) (f : Trees) → is_name w ≡ true → end_of f ≡ Some tt → lone_name (word w f) ≡ Some w
unfolding lone_name end_of ended guard
lone_end w none h e = rw h refl
lone_end w (word v f) h e = cc
lone_end w (list k f) h e = cc

pub ruleset name_steps = (lone_none, lone_list, lone_no_name, lone_more, lone_end)

pub header_behind : (kind : List ℕ) (f g : Trees) → behind_word kind f ≡ Some g → header_of kind f ≡ lone_name g
unfolding header_of
header_behind kind f g h = rw h refl

pub header_none : (kind : List ℕ) (f : Trees) → behind_word kind f ≡ None → header_of kind f ≡ None
unfolding header_of
header_none kind f h = rw h refl

pub ruleset header_steps = (header_behind, header_none)
