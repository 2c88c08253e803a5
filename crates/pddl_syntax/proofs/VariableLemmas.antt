-- The definitions of lists of typed variables, one equation for each case.

use Rattle.std.proofs.Common.{◌≡◌, ◌≢◌, ℕ, ◌+◌, ◌<◌, ◌++◌, Bool, true, false, nat_eq, List, [], ◌∷◌, length, Option, Some, None, IsSome, unwrap_or, refl, ap, arith, append_assoc}
use Rattle.std.proofs.lemmas.Bool.{eqb-true}
use Rattle.std.proofs.lemmas.List.{append-nil, map_push}
use Rattle.std.specs.Option.{option_map}
use Rattle.pddl_words.specs.Words.{is_name}
use Rattle.pddl_syntax.specs.declared.walk.Word.{Word}
use Rattle.pddl_syntax.specs.declared.syntax.VariableGroup as groups
use Rattle.pddl_syntax.specs.Forms.{word_forms, variable_group_form, variable_groups}
use Rattle.pddl_syntax.specs.Heads.{is_dash, is_variable}
use Rattle.pddl_syntax.specs.Keywords.{object_word}
use Rattle.pddl_syntax.specs.Optional.{guard, followed_by, with_front}
use Rattle.pddl_syntax.specs.Trees.{Trees, none, word, list}
use Rattle.pddl_syntax.specs.Syntax.{VariableGroup, either_in, last_variables, variable_group, typed_variables, variables_typed}
use Rattle.pddl_syntax.specs.TypesAhead.{Typing, typing, typing_of}
use Rattle.pddl_syntax.proofs.ListsOf.{front_none}
use Rattle.pddl_syntax.specs.Sizes.{size}
use Rattle.pddl_syntax.proofs.Guards.{guard_held}
use Rattle.pddl_syntax.proofs.Memory.{only_memory}
use Rattle.pddl_syntax.proofs.TypedLemmas.{no_names, name_forms-push}
use Rattle.pddl_syntax.proofs.WordLemmas.{no_words, word_forms-push}

pub typing_none : typing_of none ≡ None
unfolding typing_of
typing_none = refl

pub typing_other : (w : List ℕ) (f : Trees) → is_name w ≡ false → typing_of (word w f) ≡ None
unfolding typing_of guard
typing_other w f h = rw h refl

pub typing_name : (w : List ℕ) (f : Trees) → is_name w ≡ true → typing_of (word w f) ≡ Some (typing f (w ∷ []))
unfolding typing_of guard
typing_name w f h = rw h refl

pub typing_no_either : (k f : Trees) → either_in k ≡ None → typing_of (list k f) ≡ None
unfolding typing_of
typing_no_either k f h = rw h refl

pub typing_either : (k f : Trees) (types : List (List ℕ)) → either_in k ≡ Some types → typing_of (list k f) ≡ Some (typing f types)
unfolding typing_of
typing_either k f types h = rw h refl

pub ruleset typing_steps = (no_names, name_forms-push, typing_none, typing_other, typing_name, typing_no_either, typing_either)

-- the groups behind a dash, by the types at the front
unfoldable pub typed_behind : List (List ℕ) → Option Typing → Option (List VariableGroup)
typed_behind variables None = None
typed_behind variables (Some t) = followed_by (variable_group variables (Some t.types)) (typed_variables [] t.others)

untyped : (variables : List (List ℕ)) (others : Option (List VariableGroup)) → followed_by (variable_group variables None) others ≡ None
unfolding variable_group followed_by
untyped [] others = refl
untyped (v ∷ vs) others = refl

behind_dash : (variables : List (List ℕ)) (f : Trees) → variables_typed variables f ≡ typed_behind variables (typing_of f)
unfolding variables_typed typed_behind typing_of guard
behind_dash variables none = refl
behind_dash variables (word w f) = by (is_name w)
  where
    by : (test : Bool) → followed_by (variable_group variables (guard test (Some (w ∷ [])))) (typed_variables [] f) ≡ typed_behind variables (guard test (Some (typing f (w ∷ []))))
    by true = refl
    by false = untyped variables (typed_variables [] f)
behind_dash variables (list k f) = by (either_in k)
  where
    by : (types : Option (List (List ℕ))) → followed_by (variable_group variables types) (typed_variables [] f) ≡ typed_behind variables (option_map (typing f) types)
    by None = untyped variables (typed_variables [] f)
    by (Some ts) = refl

nothing : (t : Typing) → None ≡ Some t → ⊥
nothing t h = cc

-- what follows the types is less
pub typing_smaller : (f g : Trees) (types : List (List ℕ)) → typing_of f ≡ Some (typing g types) → size g < size f
unfolding typing_of guard
typing_smaller none g types h = absurd (nothing (typing g types) h)
typing_smaller (word w f) g types h = by (is_name w) h
  where
    by : (test : Bool) → guard test (Some (typing f (w ∷ []))) ≡ Some (typing g types) → size g < 1 + size f
    by true e = let same : f ≡ g = ap (λ (t : Typing). t.others) (guard_held true (typing f (w ∷ [])) (typing g types) e).1 in rw same (omega arith)
    by false e = absurd (nothing (typing g types) e)
typing_smaller (list k f) g types h = by (either_in k) h
  where
    by : (found : Option (List (List ℕ))) → option_map (typing f) found ≡ Some (typing g types) → size g < 1 + size k + size f
    by None e = absurd (nothing (typing g types) e)
    by (Some ts) e = let all : typing f ts ≡ typing g types = cc in let same : f ≡ g = ap (λ (t : Typing). t.others) all in rw same (omega arith)

pub no_groups : variable_groups [] ≡ []
unfolding variable_groups
no_groups = refl

pub variable_groups-push : (gs : List groups.VariableGroup) (g : groups.VariableGroup) → variable_groups (gs ++ g ∷ []) ≡ variable_groups gs ++ variable_group_form g ∷ []
unfolding variable_groups
variable_groups-push gs g = map_push variable_group_form gs g

pub typed_end : (front : List VariableGroup) (variables : List Word) → nat_eq (length variables) 0 ≡ true →
    with_front front (typed_variables (word_forms variables) none) ≡ Some front
unfolding typed_variables with_front word_forms last_variables
typed_end front [] h = rw append-nil refl
typed_end front (v ∷ vs) h = absurd (let e : length (v ∷ vs) ≡ 0 = eqb-true (length (v ∷ vs)) 0 h in omega arith)

pub typed_last : (front : List VariableGroup) (variables : List Word) → variables ≢ [] →
    with_front front (typed_variables (word_forms variables) none) ≡ Some (front ++ record { variables = word_forms variables; types = object_word ∷ [] } ∷ [])
unfolding typed_variables with_front word_forms last_variables
typed_last front [] h = absurd (h refl)
typed_last front (v ∷ vs) h = refl

pub typed_list : (front : List VariableGroup) (variables : List (List ℕ)) (k f : Trees) → with_front front (typed_variables variables (list k f)) ≡ None
unfolding typed_variables with_front
typed_list front variables k f = refl

pub typed_other : (front : List VariableGroup) (variables : List (List ℕ)) (w : List ℕ) (f : Trees) → is_dash w ≡ false → is_variable w ≡ false →
    with_front front (typed_variables variables (word w f)) ≡ None
unfolding typed_variables with_front guard
typed_other front variables w f h e = rw (h, e) refl

pub typed_variable : (front : List VariableGroup) (variables : List (List ℕ)) (w : List ℕ) (f : Trees) → is_dash w ≡ false → is_variable w ≡ true →
    with_front front (typed_variables variables (word w f)) ≡ with_front front (typed_variables (variables ++ w ∷ []) f)
unfolding typed_variables guard
typed_variable front variables w f h e = rw (h, e) refl

pub typed_untyped : (front : List VariableGroup) (variables : List (List ℕ)) (w : List ℕ) (f : Trees) → is_dash w ≡ true → typing_of f ≡ None →
    with_front front (typed_variables variables (word w f)) ≡ None
unfolding typed_variables with_front typed_behind
typed_untyped front variables w f h e = rw (h, behind_dash variables f, e) refl

unnamed : (f : Option Typing) → typed_behind [] f ≡ None
unfolding typed_behind variable_group followed_by
unnamed None = refl
unnamed (Some t) = refl

pub typed_unnamed : (front : List VariableGroup) (variables : List Word) (w : List ℕ) (f : Trees) → is_dash w ≡ true → nat_eq (length variables) 0 ≡ true →
    with_front front (typed_variables (word_forms variables) (word w f)) ≡ None
unfolding typed_variables with_front word_forms
typed_unnamed front [] w f h e = rw (h, behind_dash [] f, unnamed (typing_of f)) refl
typed_unnamed front (v ∷ vs) w f h z = absurd (let e : length (v ∷ vs) ≡ 0 = eqb-true (length (v ∷ vs)) 0 z in omega arith)

group_read : (front : List VariableGroup) (g : VariableGroup) (others : Option (List VariableGroup)) →
    with_front front (followed_by (Some g) others) ≡ with_front (front ++ g ∷ []) others
unfolding with_front followed_by
group_read front g None = refl
group_read front g (Some gs) = rw append_assoc refl

pub typed_group : (front : List VariableGroup) (variables : List Word) (w : List ℕ) (f g : Trees) (types : List (List ℕ)) → is_dash w ≡ true →
    typing_of f ≡ Some (typing g types) → variables ≢ [] →
    with_front front (typed_variables (word_forms variables) (word w f))
    ≡ with_front (front ++ record { variables = word_forms variables; types = types } ∷ []) (typed_variables [] g)
unfolding typed_variables typed_behind word_forms variable_group
typed_group front [] w f g types h e some = absurd (some refl)
typed_group front (v ∷ vs) w f g types h e some =
    rw (h, behind_dash (word_forms (v ∷ vs)) f, e) (group_read front (record { variables = word_forms (v ∷ vs); types = types }) (typed_variables [] g))

pub ruleset typed_steps = (
  front_none,
  no_words,
  no_groups,
  word_forms-push,
  variable_groups-push,
  typed_end,
  typed_last,
  typed_list,
  typed_other,
  typed_variable,
  typed_untyped,
  typed_unnamed,
  typed_group,
  typing_smaller,
)

pub kept_so : (f : Trees) → IsSome (typed_variables [] f) → typed_variables [] f ≡ Some (unwrap_or (typed_variables [] f) [])
kept_so f h = by (typed_variables [] f) h
  where
    by : (groups : Option (List VariableGroup)) → IsSome groups → groups ≡ Some (unwrap_or groups [])
    by None h = cc
    by (Some gs) h = refl

pub there_again : (f : Trees) (groups : List VariableGroup) → typed_variables [] f ≡ Some groups → IsSome (typed_variables [] f)
there_again f groups h = rw h refl

pub same_again : (f : Trees) (groups : List VariableGroup) → typed_variables [] f ≡ Some groups → groups ≡ unwrap_or (typed_variables [] f) []
same_again f groups h = rw h refl

pub ruleset list_steps = (kept_so, there_again, same_again, only_memory)
