-- Trees are read as a list of typed names exactly if they are written as one.

use Rattle.std.proofs.Common.{◌≡◌, ◌≢◌, ℕ, ◌+◌, ◌++◌, ◌<◌, ◌≤◌, Bool, true, false, cond, nat_lt, List, [], ◌∷◌, Option, Some, None, All, get_or, refl, ap, sym, ◌∙◌, subst, true≢false, append_assoc, append-nil, if◌then◌else◌, arith, inl, inr}
use Rattle.std.proofs.lemmas.Bool.{cases_lt, lt-ltb, le-ltb}
use Rattle.std.proofs.lemmas.List.Elements.{All-nil, All-cons, All-head, All-tail, All-push}
use Rattle.std.proofs.lemmas.Slice.Eq.{bytes_eq-Decides}
use Rattle.std.specs.Char.{to_ascii_lowercase}
use Rattle.std.specs.List.{AllPass}
use Rattle.pddl_words.specs.Words.{is_name, folded}
use Rattle.pddl_syntax.specs.Heads.{is_dash}
use Rattle.pddl_syntax.specs.Keywords.{dash_word}
use Rattle.pddl_syntax.specs.Optional.{guard, followed_by}
use Rattle.pddl_syntax.specs.Trees.{Trees, none, word, list}
use Rattle.pddl_syntax.specs.Syntax.{NameGroup, last_names, name_group, typed_names, names_typed}
use Rattle.reading_laws.specs.TypedLists.{words_before, groups_written, IsNameGroup, IsTypedList, AreNamesTyped}
use Rattle.reading_laws.proofs.Guards.{guard_passed}

-- only `-` is `-` in lower case
lower_dash : (b : ℕ) → to_ascii_lowercase b ≡ 45 → b ≡ 45
lower_dash b h = elim (cases_lt b 65) [ inl low ↦ at_low low | inr high ↦ absurd (at_high high) ]
  where
    at_low : b < 65 → b ≡ 45
    at_low low = sym (ap (λ t. cond t b (cond (nat_lt b 91) (b + 32) b)) (lt-ltb b 65 low)) ∙ h

    at_high : 65 ≤ b → ⊥
    at_high high = by (nat_lt b 91) (sym (ap (λ t. cond t b (cond (nat_lt b 91) (b + 32) b)) (le-ltb b 65 high)) ∙ h)
      where
        by : (t : Bool) → cond t (b + 32) b ≡ 45 → ⊥
        by true e = omega (arith, e)
        by false e = omega (arith, e)

-- the word of a dash
pub dash_is : (w : List ℕ) → is_dash w ≡ true → w ≡ dash_word
unfolding is_dash
dash_is w h = by w ((bytes_eq-Decides (folded w) (folded dash_word)).0 h)
  where
    by : (w : List ℕ) → folded w ≡ 45 ∷ [] → w ≡ 45 ∷ []
    by [] e = cc
    by (b ∷ []) e = ap (λ c. c ∷ []) (lower_dash b (ap (λ l. get_or l 0 0) e))
    by (b ∷ c ∷ bytes) e = cc

-- no name is a dash
no_dash : (w : List ℕ) → is_name w ≡ true → is_dash w ≡ false
unfolding is_name
no_dash w h = by (is_dash w) refl
  where
    by : (test : Bool) → is_dash w ≡ test → is_dash w ≡ false
    by false e = e
    by true e = absurd (true≢false (sym h ∙ ap is_name (dash_is w e)))

-- names are read behind those that wait for their type
names_read : (front names : List (List ℕ)) (others : Trees) → AllPass is_name names → typed_names front (words_before names others) ≡ typed_names (front ++ names) others
unfolding typed_names words_before guard
names_read front [] others all = ap (λ ns. typed_names ns others) (sym (append-nil front))
names_read front (w ∷ ws) others all =
    let is : is_name w ≡ true = All-head (λ n. is_name n ≡ true) w ws all in
    let step : typed_names front (word w (words_before ws others)) ≡ typed_names (front ++ w ∷ []) (words_before ws others) = rw (no_dash w is, is) refl in
    step ∙ names_read (front ++ w ∷ []) ws others (All-tail (λ n. is_name n ≡ true) w ws all) ∙ ap (λ ns. typed_names ns others) (append_assoc front (w ∷ []) ws)

-- a dash and a type close a group
type_read : (names : List (List ℕ)) (type : List ℕ) (others : Trees) → names ≢ [] → is_name type ≡ true →
    typed_names names (word dash_word (word type others)) ≡ followed_by (Some (record { names = names; type = type })) (typed_names [] others)
unfolding typed_names names_typed name_group guard is_dash
type_read [] type others some is = absurd (some refl)
type_read (n ∷ ns) type others some is = rw is refl

groups_read : (typed : List NameGroup) (last : List (List ℕ)) → All IsNameGroup typed → AllPass is_name last →
    typed_names [] (groups_written typed last) ≡ Some (typed ++ last_names last)
unfolding groups_written typed_names followed_by
groups_read [] last groups names = names_read [] last none names
groups_read (g ∷ gs) last groups names =
    let is = All-head IsNameGroup g gs groups in
    names_read [] g.names (word dash_word (word g.type (groups_written gs last))) is.names
    ∙ type_read g.names g.type (groups_written gs last) is.some is.type
    ∙ ap (followed_by (Some g)) (groups_read gs last (All-tail IsNameGroup g gs groups) names)

-- what is read behind names that wait for their type is written so behind them
abbrev IsWritten : Trees → Type 0
IsWritten trees = (names : List (List ℕ)) (groups : List NameGroup) → AllPass is_name names → typed_names names trees ≡ Some groups → IsTypedList (words_before names trees) groups

-- and so is what is read behind names and a dash
abbrev IsTypeWritten : Trees → Type 0
IsTypeWritten trees = (names : List (List ℕ)) (groups : List NameGroup) → AllPass is_name names → names_typed names trees ≡ Some groups →
    IsTypedList (words_before names (word dash_word trees)) groups

pub one_more : (names : List (List ℕ)) (w : List ℕ) (others : Trees) → words_before (names ++ w ∷ []) others ≡ words_before names (word w others)
unfolding words_before
one_more [] w others = refl
one_more (n ∷ ns) w others = ap (word n) (one_more ns w others)

end_written : IsWritten none
unfolding typed_names groups_written
end_written names groups all h = record {
  typed = [];
  last = names;
  written = refl;
  are_groups = All-nil IsNameGroup;
  are_names = all;
  given = let e : last_names names ≡ groups = cc in sym e;
}

word_written : (w : List ℕ) (others : Trees) → IsWritten others → IsTypeWritten others → IsWritten (word w others)
unfolding typed_names
word_written w others written type_written names groups all h = by (is_dash w) refl h
  where
    by : (test : Bool) → is_dash w ≡ test → (if test then names_typed names others else guard (is_name w) (typed_names (names ++ w ∷ []) others)) ≡ Some groups →
        IsTypedList (words_before names (word w others)) groups
    by true e k = subst (λ d. IsTypedList (words_before names (word d others)) groups) (sym (dash_is w e)) (type_written names groups all k)
    by false e k =
        let passed = guard_passed (is_name w) (typed_names (names ++ w ∷ []) others) groups k in
        subst (λ t. IsTypedList t groups) (one_more names w others)
        (written (names ++ w ∷ []) groups (All-push (λ n. is_name n ≡ true) names w all passed.0) passed.1)

-- a group whose type is read is written before the groups that follow it
group_written : (names : List (List ℕ)) (type : List ℕ) (others : Trees) → AllPass is_name names → is_name type ≡ true → (found : Option (List NameGroup)) →
    ((gs : List NameGroup) → found ≡ Some gs → IsTypedList others gs) → (groups : List NameGroup) → followed_by (name_group names type) found ≡ Some groups →
    IsTypedList (words_before names (word dash_word (word type others))) groups
unfolding followed_by name_group groups_written
group_written [] type others all is found rest groups h = cc
group_written (n ∷ ns) type others all is None rest groups h = cc
group_written (n ∷ ns) type others all is (Some gs) rest groups h =
    let group : NameGroup = record { names = n ∷ ns; type = type } in
    let behind = rest gs refl in
    let same : group ∷ gs ≡ groups = cc in
    record {
      typed = group ∷ behind.typed;
      last = behind.last;
      written = ap (λ t. words_before (n ∷ ns) (word dash_word (word type t))) behind.written;
      are_groups = All-cons IsNameGroup group behind.typed (record { some = λ e. cc; names = all; type = is }) behind.are_groups;
      are_names = behind.are_names;
      given = sym same ∙ ap (λ gs. group ∷ gs) behind.given;
    }

type_written : (w : List ℕ) (others : Trees) → IsWritten others → IsTypeWritten (word w others)
unfolding names_typed words_before
type_written w others written names groups all h =
    let passed = guard_passed (is_name w) (followed_by (name_group names w) (typed_names [] others)) groups h in
    group_written names w others all passed.0 (typed_names [] others) (λ gs e. written [] gs (All-nil (λ n. is_name n ≡ true)) e) groups passed.1

both_written : (trees : Trees) → IsWritten trees × IsTypeWritten trees
unfolding typed_names names_typed
both_written none = (end_written, λ names groups all h. cc)
both_written (word w others) =
    let rest = both_written others in
    (word_written w others rest.0 rest.1, type_written w others rest.0)
both_written (list inside others) = (λ names groups all h. cc, λ names groups all h. cc)

pub names_typed_so : AreNamesTyped
unfolding words_before
names_typed_so trees groups = (
  λ h. (both_written trees).0 [] groups (All-nil (λ n. is_name n ≡ true)) h,
  λ is. ap (typed_names []) is.written ∙ groups_read is.typed is.last is.are_groups is.are_names ∙ ap Some (sym is.given),
)
