-- Lists of lists that are read alike, one equation for each case.

use Rattle.std.proofs.Common.{◌≡◌, ℕ, ◌++◌, List, [], ◌∷◌, Option, Some, None, refl, append_assoc}
use Rattle.std.proofs.lemmas.List.{append-nil}
use Rattle.pddl_syntax.specs.Optional.{followed_by, with_front}
use Rattle.pddl_syntax.specs.Trees.{Trees, none, word, list}
use Rattle.pddl_syntax.specs.Syntax.{lists_of}

pub lists_end : {A : Type 0} (front : List A) (read : Trees → Option A) → with_front front (lists_of read none) ≡ Some front
unfolding lists_of with_front
lists_end front read = rw append-nil refl

pub lists_word : {A : Type 0} (front : List A) (read : Trees → Option A) (w : List ℕ) (f : Trees) → with_front front (lists_of read (word w f)) ≡ None
unfolding lists_of with_front
lists_word front read w f = refl

-- the values behind one more
unfoldable pub with_item : {A : Type 0} → List A → Option A → Option (List A) → Option (List A)
with_item front None others = None
with_item front (Some x) others = with_front (front ++ x ∷ []) others

pub with_front-followed_by : {A : Type 0} (front : List A) (item : Option A) (others : Option (List A)) →
    with_front front (followed_by item others) ≡ with_item front item others
unfolding with_front followed_by with_item
with_front-followed_by front None others = refl
with_front-followed_by front (Some x) None = refl
with_front-followed_by front (Some x) (Some xs) = rw append_assoc refl

pub lists_list : {A : Type 0} (front : List A) (read : Trees → Option A) (k f : Trees) →
    with_front front (lists_of read (list k f)) ≡ with_item front (read k) (lists_of read f)
unfolding lists_of
lists_list front read k f = with_front-followed_by front (read k) (lists_of read f)

pub item_none : {A : Type 0} (front : List A) (others : Option (List A)) → with_item front None others ≡ None
unfolding with_item
item_none front others = refl

pub item_some : {A : Type 0} (front : List A) (x : A) (others : Option (List A)) → with_item front (Some x) others ≡ with_front (front ++ x ∷ []) others
unfolding with_item
item_some front x others = refl

pub front_none : {A : Type 0} (read : Option (List A)) → with_front [] read ≡ read
unfolding with_front
front_none None = refl
front_none (Some xs) = refl

pub ruleset lists_steps = (lists_end, lists_word, lists_list, item_none, item_some, front_none)
