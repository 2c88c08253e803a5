-- The definitions of lists of typed names, one equation for each case.

use Rattle.std.proofs.Common.{◌≡◌, ◌≢◌, ℕ, ◌++◌, Bool, true, false, List, [], ◌∷◌, Option, Some, None, nat_eq, length, refl, append_assoc, arith}
use Rattle.std.proofs.lemmas.Bool.{eqb-true}
use Rattle.std.proofs.lemmas.List.{append-nil, map_push}
use Rattle.pddl_words.specs.Words.{is_name}
use Rattle.pddl_syntax.specs.declared.walk.NameWord.{NameWord}
use Rattle.pddl_syntax.specs.declared.syntax.NameGroup as groups
use Rattle.pddl_syntax.specs.Forms.{name_form, name_forms, name_group_form, name_groups}
use Rattle.pddl_syntax.specs.Heads.{is_dash, is_keyword}
use Rattle.pddl_syntax.specs.Keywords.{object_word}
use Rattle.pddl_syntax.specs.Optional.{guard, followed_by, with_front}
use Rattle.pddl_syntax.specs.Trees.{Trees, none, word, list}
use Rattle.pddl_syntax.specs.Syntax.{NameGroup, keywords_of, last_names, name_group, typed_names, names_typed, leading_name}
use Rattle.pddl_syntax.proofs.ListsOf.{front_none}

pub keywords_end : keywords_of none ≡ Some tt
unfolding keywords_of
keywords_end = refl

pub keywords_list : (k f : Trees) → keywords_of (list k f) ≡ None
unfolding keywords_of
keywords_list k f = refl

pub keywords_other : (w : List ℕ) (f : Trees) → is_keyword w ≡ false → keywords_of (word w f) ≡ None
unfolding keywords_of guard
keywords_other w f h = rw h refl

pub keywords_word : (w : List ℕ) (f : Trees) → is_keyword w ≡ true → keywords_of (word w f) ≡ keywords_of f
unfolding keywords_of guard
keywords_word w f h = rw h refl

pub ruleset keyword_steps = (keywords_end, keywords_list, keywords_other, keywords_word)

pub leading_none : leading_name none ≡ None
unfolding leading_name
leading_none = refl

pub leading_list : (k f : Trees) → leading_name (list k f) ≡ None
unfolding leading_name
leading_list k f = refl

pub leading_other : (w : List ℕ) (f : Trees) → is_name w ≡ false → leading_name (word w f) ≡ None
unfolding leading_name guard
leading_other w f h = rw h refl

pub ruleset leading_steps = (leading_none, leading_list, leading_other)

pub no_names : name_forms [] ≡ []
unfolding name_forms
no_names = refl

pub no_groups : name_groups [] ≡ []
unfolding name_groups
no_groups = refl

pub name_forms-push : (ns : List NameWord) (n : NameWord) → name_forms (ns ++ n ∷ []) ≡ name_forms ns ++ n.text.now ∷ []
unfolding name_forms
name_forms-push ns n = map_push name_form ns n

pub ruleset name_forms_pushed = (name_forms-push)

pub name_groups-push : (gs : List groups.NameGroup) (g : groups.NameGroup) → name_groups (gs ++ g ∷ []) ≡ name_groups gs ++ name_group_form g ∷ []
unfolding name_groups
name_groups-push gs g = map_push name_group_form gs g

pub typed_end : (front : List NameGroup) (names : List NameWord) → nat_eq (length names) 0 ≡ true →
    with_front front (typed_names (name_forms names) none) ≡ Some front
unfolding typed_names with_front name_forms last_names
typed_end front [] h = rw append-nil refl
typed_end front (n ∷ ns) h = absurd (let e : length (n ∷ ns) ≡ 0 = eqb-true (length (n ∷ ns)) 0 h in omega arith)

pub typed_last : (front : List NameGroup) (names : List NameWord) → names ≢ [] →
    with_front front (typed_names (name_forms names) none) ≡ Some (front ++ record { names = name_forms names; type = object_word } ∷ [])
unfolding typed_names with_front name_forms last_names
typed_last front [] h = absurd (h refl)
typed_last front (n ∷ ns) h = refl

pub typed_list : (front : List NameGroup) (names : List (List ℕ)) (k f : Trees) → with_front front (typed_names names (list k f)) ≡ None
unfolding typed_names with_front
typed_list front names k f = refl

pub typed_other : (front : List NameGroup) (names : List (List ℕ)) (w : List ℕ) (f : Trees) → is_dash w ≡ false → is_name w ≡ false →
    with_front front (typed_names names (word w f)) ≡ None
unfolding typed_names with_front guard
typed_other front names w f h e = rw (h, e) refl

pub typed_name : (front : List NameGroup) (names : List (List ℕ)) (w : List ℕ) (f : Trees) → is_dash w ≡ false → is_name w ≡ true →
    with_front front (typed_names names (word w f)) ≡ with_front front (typed_names (names ++ w ∷ []) f)
unfolding typed_names guard
typed_name front names w f h e = rw (h, e) refl

untyped : (names : List (List ℕ)) (f : Trees) → leading_name f ≡ None → names_typed names f ≡ None
unfolding names_typed leading_name guard
untyped names none h = refl
untyped names (list k f) h = refl
untyped names (word w f) h = by (is_name w) h
  where
    by : (test : Bool) → guard test (Some w) ≡ None → guard test (followed_by (name_group names w) (typed_names [] f)) ≡ None
    by true e = cc
    by false e = refl

pub typed_untyped : (front : List NameGroup) (names : List (List ℕ)) (w : List ℕ) (f : Trees) → is_dash w ≡ true → leading_name f ≡ None →
    with_front front (typed_names names (word w f)) ≡ None
unfolding typed_names with_front
typed_untyped front names w f h e = rw (h, untyped names f e) refl

unnamed : (f : Trees) → names_typed [] f ≡ None
unfolding names_typed name_group followed_by guard
unnamed none = refl
unnamed (list k f) = refl
unnamed (word w f) = by (is_name w)
  where
    by : (test : Bool) → guard {A = List NameGroup} test None ≡ None
    by true = refl
    by false = refl

pub typed_unnamed : (front : List NameGroup) (names : List NameWord) (w : List ℕ) (f : Trees) → is_dash w ≡ true → nat_eq (length names) 0 ≡ true →
    with_front front (typed_names (name_forms names) (word w f)) ≡ None
unfolding typed_names with_front name_forms
typed_unnamed front [] w f h e = rw (h, unnamed f) refl
typed_unnamed front (n ∷ ns) w f h z = absurd (let e : length (n ∷ ns) ≡ 0 = eqb-true (length (n ∷ ns)) 0 z in omega arith)

group_read : (front : List NameGroup) (g : NameGroup) (others : Option (List NameGroup)) →
    with_front front (followed_by (Some g) others) ≡ with_front (front ++ g ∷ []) others
unfolding with_front followed_by
group_read front g None = refl
group_read front g (Some gs) = rw append_assoc refl

pub typed_group : (front : List NameGroup) (names : List NameWord) (w t : List ℕ) (f : Trees) → is_dash w ≡ true → is_name t ≡ true → names ≢ [] →
    with_front front (typed_names (name_forms names) (word w (word t f)))
    ≡ with_front (front ++ record { names = name_forms names; type = t } ∷ []) (typed_names [] f)
unfolding typed_names names_typed name_forms name_group guard
typed_group front [] w t f h e some = absurd (some refl)
typed_group front (n ∷ ns) w t f h e some = rw (h, e) (group_read front (record { names = name_forms (n ∷ ns); type = t }) (typed_names [] f))

pub ruleset typed_steps =
    (front_none, no_names, no_groups, name_forms-push, name_groups-push, typed_end, typed_last, typed_list, typed_other, typed_name, typed_untyped, typed_unnamed, typed_group)
