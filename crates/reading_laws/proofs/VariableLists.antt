-- Trees are read as a list of typed variables exactly if they are written as one.

use Rattle.std.proofs.Common.{◌≡◌, ◌≢◌, ℕ, ◌++◌, Bool, true, false, List, [], ◌∷◌, map, Option, Some, None, All, IsTrue, refl, ap, sym, ◌∙◌, subst, true≢false, append_assoc, append-nil, if◌then◌else◌}
use Rattle.std.proofs.lemmas.List.Elements.{All-nil, All-cons, All-head, All-tail, All-push}
use Rattle.std.specs.List.{AllPass}
use Rattle.std.specs.Option.{option_and_then}
use Rattle.pddl_words.specs.Kinds.{is_same_word, kind_of_word}
use Rattle.pddl_words.specs.Words.{is_name}
use Rattle.pddl_syntax.specs.Heads.{is_dash, is_either, is_variable}
use Rattle.pddl_syntax.specs.Keywords.{dash_word, either_word}
use Rattle.pddl_syntax.specs.Optional.{guard, followed_by}
use Rattle.pddl_syntax.specs.Trees.{Trees, none, word, list}
use Rattle.pddl_syntax.specs.Syntax.{VariableGroup, behind_word, words_of, some_of, names_of, either_in, last_variables, variable_group, typed_variables, variables_typed}
use Rattle.reading_laws.specs.TypedLists.{words_before, TypesWritten, one, choice, types_before, types_named, AreTypes, VariablesWritten, group_given, variables_written, IsVariableGroup, IsVariableList, AreVariablesTyped}
use Rattle.reading_laws.proofs.Guards.{guard_passed}
use Rattle.reading_laws.proofs.TypedLists.{dash_is, one_more}

-- no variable is a dash
no_dash : (w : List ℕ) → is_variable w ≡ true → is_dash w ≡ false
unfolding is_variable kind_of_word is_name
no_dash w h = by (is_dash w) refl
  where
    by : (test : Bool) → is_dash w ≡ test → is_dash w ≡ false
    by false e = e
    by true e = absurd (true≢false (sym h ∙ ap is_variable (dash_is w e)))

-- words that pass a test are read as they are written
words_read : (test : List ℕ → Bool) (ws : List (List ℕ)) → AllPass test ws → words_of test (words_before ws none) ≡ Some ws
unfolding words_of words_before followed_by guard
words_read test [] all = refl
words_read test (w ∷ ws) all =
    let is : test w ≡ true = All-head (λ v. test v ≡ true) w ws all in
    let rest : words_of test (words_before ws none) ≡ Some ws = words_read test ws (All-tail (λ v. test v ≡ true) w ws all) in
    rw (is, rest) refl

words_are_written : (test : List ℕ → Bool) (trees : Trees) (ws : List (List ℕ)) → words_of test trees ≡ Some ws → (trees ≡ words_before ws none) × AllPass test ws
unfolding words_of words_before followed_by guard
words_are_written test none ws h =
    let P : List (List ℕ) → Type 0 = λ vs. (none ≡ words_before vs none) × AllPass test vs in
    let same : [] ≡ ws = cc in
    subst P same (refl, All-nil (λ v. test v ≡ true))
words_are_written test (list inside others) ws h = cc
words_are_written test (word w others) ws h = by (test w) refl (words_of test others) (λ vs e. words_are_written test others vs e) h
  where
    by : (b : Bool) → test w ≡ b → (found : Option (List (List ℕ))) → ((vs : List (List ℕ)) → found ≡ Some vs → (others ≡ words_before vs none) × AllPass test vs) →
        followed_by (guard b (Some w)) found ≡ Some ws → (word w others ≡ words_before ws none) × AllPass test ws
    by false is found rest e = cc
    by true is None rest e = cc
    by true is (Some vs) rest e =
        let P : List (List ℕ) → Type 0 = λ us. (word w others ≡ words_before us none) × AllPass test us in
        let same : w ∷ vs ≡ ws = cc in
        let behind = rest vs refl in
        subst P same (ap (word w) behind.0, All-cons (λ v. test v ≡ true) w vs is behind.1)

-- a choice of types is read as it is written
either_read : (either : List ℕ) (types : List (List ℕ)) → is_either either ≡ true → types ≢ [] → AllPass is_name types →
    either_in (word either (words_before types none)) ≡ Some types
unfolding either_in behind_word is_either guard names_of some_of
either_read either types is some all =
    let read : words_of is_name (words_before types none) ≡ Some types = words_read is_name types all in
    rw (is, read) (by types some)
  where
    by : (types : List (List ℕ)) → types ≢ [] → some_of (Some types) ≡ Some types
    by [] some = absurd (some refl)
    by (t ∷ ts) some = refl

either_written : (trees : Trees) (types : List (List ℕ)) → either_in trees ≡ Some types →
    (either : List ℕ) × (trees ≡ word either (words_before types none)) × IsTrue (is_either either) × (types ≢ []) × AllPass is_name types
unfolding either_in behind_word some_of guard names_of is_either
either_written none types h = cc
either_written (list inside others) types h = cc
either_written (word w others) types h = by (is_same_word w either_word) refl h
  where
    named : (found : Option (List (List ℕ))) → words_of is_name others ≡ found → some_of found ≡ Some types → (words_of is_name others ≡ Some types) × (types ≢ [])
    named None e k = cc
    named (Some []) e k = cc
    named (Some (t ∷ ts)) e k = let same : t ∷ ts ≡ types = cc in (e ∙ ap Some same, λ z. let no : t ∷ ts ≡ [] = same ∙ z in cc)

    by : (b : Bool) → is_same_word w either_word ≡ b → option_and_then names_of (guard b (Some others)) ≡ Some types →
        (either : List ℕ) × (word w others ≡ word either (words_before types none)) × IsTrue (is_either either) × (types ≢ []) × AllPass is_name types
    by false is e = cc
    by true is e =
        let found = named (words_of is_name others) refl e in
        let written = words_are_written is_name others types found.0 in
        (w, ap (word w) written.0, is, found.1, written.1)

-- variables are read behind those that wait for their types
variables_read : (front variables : List (List ℕ)) (others : Trees) → AllPass is_variable variables →
    typed_variables front (words_before variables others) ≡ typed_variables (front ++ variables) others
unfolding typed_variables words_before guard
variables_read front [] others all = ap (λ vs. typed_variables vs others) (sym (append-nil front))
variables_read front (v ∷ vs) others all =
    let is : is_variable v ≡ true = All-head (λ n. is_variable n ≡ true) v vs all in
    let step : typed_variables front (word v (words_before vs others)) ≡ typed_variables (front ++ v ∷ []) (words_before vs others) = rw (no_dash v is, is) refl in
    step ∙ variables_read (front ++ v ∷ []) vs others (All-tail (λ n. is_variable n ≡ true) v vs all) ∙ ap (λ ns. typed_variables ns others) (append_assoc front (v ∷ []) vs)

-- a dash and types close a group
types_read : (variables : List (List ℕ)) (types : TypesWritten) (others : Trees) → variables ≢ [] → AreTypes types →
    typed_variables variables (word dash_word (types_before types others))
    ≡ followed_by (Some (record { variables = variables; types = types_named types })) (typed_variables [] others)
unfolding typed_variables variables_typed variable_group types_before types_named guard is_dash
types_read [] types others some is = absurd (some refl)
types_read (v ∷ vs) (one type) others some is = rw is refl
types_read (v ∷ vs) (choice either types) others some (is, named, all) = rw (either_read either types is named all) refl

groups_read : (typed : List VariablesWritten) (last : List (List ℕ)) → All IsVariableGroup typed → AllPass is_variable last →
    typed_variables [] (variables_written typed last) ≡ Some (map group_given typed ++ last_variables last)
unfolding variables_written typed_variables followed_by
groups_read [] last groups variables = variables_read [] last none variables
groups_read (g ∷ gs) last groups variables =
    let is = All-head IsVariableGroup g gs groups in
    variables_read [] g.variables (word dash_word (types_before g.types (variables_written gs last))) is.variables
    ∙ types_read g.variables g.types (variables_written gs last) is.some is.types
    ∙ ap (followed_by (Some (group_given g))) (groups_read gs last (All-tail IsVariableGroup g gs groups) variables)

-- what is read behind variables that wait for their types is written so behind them
abbrev IsWritten : Trees → Type 0
IsWritten trees = (variables : List (List ℕ)) (groups : List VariableGroup) → AllPass is_variable variables → typed_variables variables trees ≡ Some groups →
    IsVariableList (words_before variables trees) groups

-- and so is what is read behind variables and a dash
abbrev AreTypesWritten : Trees → Type 0
AreTypesWritten trees = (variables : List (List ℕ)) (groups : List VariableGroup) → AllPass is_variable variables → variables_typed variables trees ≡ Some groups →
    IsVariableList (words_before variables (word dash_word trees)) groups

end_written : IsWritten none
unfolding typed_variables variables_written
end_written variables groups all h = record {
  typed = [];
  last = variables;
  written = refl;
  are_groups = All-nil IsVariableGroup;
  are_variables = all;
  given = let e : last_variables variables ≡ groups = cc in sym e;
}

word_written : (w : List ℕ) (others : Trees) → IsWritten others → AreTypesWritten others → IsWritten (word w others)
unfolding typed_variables
word_written w others written types_written variables groups all h = by (is_dash w) refl h
  where
    by : (test : Bool) → is_dash w ≡ test →
        (if test then variables_typed variables others else guard (is_variable w) (typed_variables (variables ++ w ∷ []) others)) ≡ Some groups →
        IsVariableList (words_before variables (word w others)) groups
    by true e k = subst (λ d. IsVariableList (words_before variables (word d others)) groups) (sym (dash_is w e)) (types_written variables groups all k)
    by false e k =
        let passed = guard_passed (is_variable w) (typed_variables (variables ++ w ∷ []) others) groups k in
        subst (λ t. IsVariableList t groups) (one_more variables w others)
        (written (variables ++ w ∷ []) groups (All-push (λ n. is_variable n ≡ true) variables w all passed.0) passed.1)

-- a group whose types are read is written before the groups that follow it
group_written : (variables : List (List ℕ)) (types : TypesWritten) (others : Trees) → AllPass is_variable variables → AreTypes types → (found : Option (List VariableGroup)) →
    ((gs : List VariableGroup) → found ≡ Some gs → IsVariableList others gs) → (groups : List VariableGroup) →
    followed_by (variable_group variables (Some (types_named types))) found ≡ Some groups →
    IsVariableList (words_before variables (word dash_word (types_before types others))) groups
unfolding followed_by variable_group variables_written
group_written [] types others all are found rest groups h = cc
group_written (v ∷ vs) types others all are None rest groups h = cc
group_written (v ∷ vs) types others all are (Some gs) rest groups h =
    let group : VariablesWritten = record { variables = v ∷ vs; types = types } in
    let behind = rest gs refl in
    let same : group_given group ∷ gs ≡ groups = cc in
    record {
      typed = group ∷ behind.typed;
      last = behind.last;
      written = ap (λ t. words_before (v ∷ vs) (word dash_word (types_before types t))) behind.written;
      are_groups = All-cons IsVariableGroup group behind.typed (record { some = λ e. cc; variables = all; types = are }) behind.are_groups;
      are_variables = behind.are_variables;
      given = sym same ∙ ap (λ more. group_given group ∷ more) behind.given;
    }

-- without types there is no group
no_group : (variables : List (List ℕ)) (found : Option (List VariableGroup)) → followed_by (variable_group variables None) found ≡ None
unfolding followed_by variable_group
no_group [] found = refl
no_group (v ∷ vs) found = refl

name_written : (w : List ℕ) (others : Trees) → IsWritten others → AreTypesWritten (word w others)
unfolding variables_typed words_before types_before types_named guard
name_written w others written variables groups all h = by (is_name w) refl h
  where
    by : (test : Bool) → is_name w ≡ test → followed_by (variable_group variables (guard test (Some (w ∷ [])))) (typed_variables [] others) ≡ Some groups →
        IsVariableList (words_before variables (word dash_word (word w others))) groups
    by false is e = absurd (none_some (sym (no_group variables (typed_variables [] others)) ∙ e))
      where
        none_some : None ≡ Some groups → ⊥
        none_some z = cc
    by true is e = group_written variables (one w) others all is (typed_variables [] others) (λ gs k. written [] gs (All-nil (λ n. is_variable n ≡ true)) k) groups e

choice_written : (inside others : Trees) → IsWritten others → AreTypesWritten (list inside others)
unfolding variables_typed words_before types_before types_named
choice_written inside others written variables groups all h = by (either_in inside) refl h
  where
    by : (types : Option (List (List ℕ))) → either_in inside ≡ types → followed_by (variable_group variables types) (typed_variables [] others) ≡ Some groups →
        IsVariableList (words_before variables (word dash_word (list inside others))) groups
    by None is e = absurd (none_some (sym (no_group variables (typed_variables [] others)) ∙ e))
      where
        none_some : None ≡ Some groups → ⊥
        none_some z = cc
    by (Some types) is e =
        let choice_of = either_written inside types is in
        let (either, same, heads, some, named) = choice_of in
        subst (λ t. IsVariableList (words_before variables (word dash_word (list t others))) groups) (sym same)
        (group_written variables (choice either types) others all (heads, some, named) (typed_variables [] others)
        (λ gs k. written [] gs (All-nil (λ n. is_variable n ≡ true)) k) groups e)

both_written : (trees : Trees) → IsWritten trees × AreTypesWritten trees
unfolding typed_variables variables_typed
both_written none = (end_written, λ variables groups all h. cc)
both_written (word w others) =
    let rest = both_written others in
    (word_written w others rest.0 rest.1, name_written w others rest.0)
both_written (list inside others) = (λ variables groups all h. cc, choice_written inside others (both_written others).0)

pub variables_typed_so : AreVariablesTyped
unfolding words_before
variables_typed_so trees groups = (
  λ h. (both_written trees).0 [] groups (All-nil (λ n. is_variable n ≡ true)) h,
  λ is. ap (typed_variables []) is.written ∙ groups_read is.typed is.last is.are_groups is.are_variables ∙ ap Some (sym is.given),
)
