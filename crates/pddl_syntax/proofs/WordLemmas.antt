-- Lists of words, one equation for each case.

use Rattle.std.proofs.Common.{◌≡◌, ℕ, ◌++◌, Bool, true, false, nat_eq, List, [], ◌∷◌, length, Option, Some, None, refl, arith}
use Rattle.std.proofs.lemmas.Bool.{eqb-true}
use Rattle.std.proofs.lemmas.List.{append-nil, map_push}
use Rattle.pddl_words.specs.Words.{is_name}
use Rattle.pddl_syntax.specs.declared.walk.NameWord.{NameWord}
use Rattle.pddl_syntax.specs.declared.walk.Word.{Word}
use Rattle.pddl_syntax.specs.Forms.{name_forms, word_form, word_forms}
use Rattle.pddl_syntax.specs.Keywords.{either_word}
use Rattle.pddl_syntax.specs.Optional.{guard, followed_by, with_front}
use Rattle.pddl_syntax.specs.Trees.{Trees, none, word, list}
use Rattle.pddl_syntax.specs.Syntax.{behind_word, words_of, some_of, names_of, either_in}
use Rattle.pddl_syntax.proofs.ListsOf.{with_item, with_front-followed_by, front_none}
use Rattle.pddl_syntax.proofs.TypedLemmas.{no_names, name_forms-push}

pub words_end : (front : List (List ℕ)) (test : List ℕ → Bool) → with_front front (words_of test none) ≡ Some front
unfolding words_of with_front
words_end front test = rw append-nil refl

pub words_list : (front : List (List ℕ)) (test : List ℕ → Bool) (k f : Trees) → with_front front (words_of test (list k f)) ≡ None
unfolding words_of with_front
words_list front test k f = refl

pub words_other : (front : List (List ℕ)) (test : List ℕ → Bool) (w : List ℕ) (f : Trees) → test w ≡ false → with_front front (words_of test (word w f)) ≡ None
unfolding words_of with_front followed_by guard
words_other front test w f h = rw h refl

word_read : (front : List (List ℕ)) (w : List ℕ) (others : Option (List (List ℕ))) → with_front front (followed_by (Some w) others) ≡ with_front (front ++ w ∷ []) others
unfolding with_item
word_read front w others = with_front-followed_by front (Some w) others

pub words_word : (front : List (List ℕ)) (test : List ℕ → Bool) (w : List ℕ) (f : Trees) → test w ≡ true →
    with_front front (words_of test (word w f)) ≡ with_front (front ++ w ∷ []) (words_of test f)
unfolding words_of guard
words_word front test w f h = rw h (word_read front w (words_of test f))

pub no_words : word_forms [] ≡ []
unfolding word_forms
no_words = refl

pub word_forms-push : (ws : List Word) (w : Word) → word_forms (ws ++ w ∷ []) ≡ word_forms ws ++ w.text.now ∷ []
unfolding word_forms
word_forms-push ws w = map_push word_form ws w

pub ruleset word_list_steps = (front_none, words_end, words_list, words_other, words_word, no_words, word_forms-push)

-- the names read so far and those that follow, where there is one at least
pub names_refused : (f : Trees) → words_of is_name f ≡ None → names_of f ≡ None
unfolding names_of some_of
names_refused f h = rw h refl

pub names_none : (f : Trees) (names : List NameWord) → nat_eq (length names) 0 ≡ true → words_of is_name f ≡ Some (name_forms names) → names_of f ≡ None
unfolding names_of some_of name_forms
names_none f [] h e = rw e refl
names_none f (n ∷ ns) h e = absurd (let z : length (n ∷ ns) ≡ 0 = eqb-true (length (n ∷ ns)) 0 h in omega arith)

pub names_some : (f : Trees) (names : List NameWord) → nat_eq (length names) 0 ≡ false → words_of is_name f ≡ Some (name_forms names) → names_of f ≡ Some (name_forms names)
unfolding names_of some_of name_forms
names_some f [] h e = cc
names_some f (n ∷ ns) h e = rw e refl

pub ruleset names_steps = (front_none, no_names, name_forms-push, words_end, words_list, words_other, words_word, names_refused, names_none, names_some)

pub either_none : (f : Trees) → behind_word either_word f ≡ None → either_in f ≡ None
unfolding either_in
either_none f h = rw h refl

pub either_behind : (f g : Trees) → behind_word either_word f ≡ Some g → either_in f ≡ names_of g
unfolding either_in
either_behind f g h = rw h refl

pub ruleset either_steps = (either_none, either_behind)
