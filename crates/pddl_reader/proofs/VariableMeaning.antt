-- The types of variables and lists of variables, one equation for each case.

use Rattle.std.proofs.Common.{◌≡◌, ℕ, ◌+◌, ◌<◌, ◌≤◌, ◌++◌, ◌&&◌, Bool, true, false, nat_le, nat_lt, is_none, is_some, List, [], ◌∷◌, length, map, drop, get_or, Option, Some, None, refl, sym, ◌∙◌, arith, append_assoc, length-append}
use Rattle.std.proofs.lemmas.Bool.{le-ltb, lt-ltb, leb-true}
use Rattle.std.proofs.lemmas.List.{append-nil, length-map}
use Rattle.std.specs.List.{position_from}
use Rattle.std.specs.Option.{option_map}
use Rattle.pddl_words.specs.Kinds.{is_same_word}
use Rattle.pddl_syntax.specs.declared.syntax.VariableGroup as groups
use Rattle.pddl_syntax.specs.declared.walk.Word.{Word}
use Rattle.pddl_syntax.specs.Forms.{name_forms, word_forms, variable_group_form, variable_groups}
use Rattle.pddl_reader.specs.Objects.{type_number}
use Rattle.pddl_syntax.specs.Optional.{guard, through}
use Rattle.pddl_syntax.specs.Syntax.{VariableGroup}
use Rattle.pddl_reader.specs.Variables.{alternative_behind, alternative_named, alternatives_of, argument_types_with, with_group_types, argument_types_of, TypedVariables, variable_number, variable_named, variables_with, group_named, variables_of}
use Rattle.std.proofs.lemmas.List.{drop_all}
use Rattle.pddl_reader.proofs.Items.{word_at, word_item_steps}
use Rattle.pddl_reader.proofs.ObjectLemmas.{named_steps}
use Rattle.pddl_syntax.proofs.Guards.{guard_held}
use Rattle.pddl_reader.proofs.TableLemmas.{words_counted}
use Rattle.pddl_reader.proofs.Through.{through_behind, through_item, through_end, through_steps}
use Rattle.pddl_syntax.proofs.WordLemmas.{no_words, word_forms-push}

pub alternatives_many : (types : List (List ℕ)) (numbers word : List ℕ) → 32 ≤ length numbers → alternative_named types numbers word ≡ None
unfolding alternative_named guard
alternatives_many types numbers word le = rw (le-ltb (length numbers) 32 le) refl

guard_none : {A : Type 0} (test : Bool) → guard {A = A} test None ≡ None
unfolding guard
guard_none true = refl
guard_none false = refl

pub alternative_unknown : (types : List (List ℕ)) (numbers word : List ℕ) → type_number types word ≡ None → alternative_named types numbers word ≡ None
unfolding alternative_named alternative_behind
alternative_unknown types numbers word h = rw h (guard_none (nat_lt (length numbers) 32))

pub alternative_known : (types : List (List ℕ)) (numbers word : List ℕ) (number : ℕ) → length numbers < 32 → type_number types word ≡ Some number →
    alternative_named types numbers word ≡ Some (numbers ++ number ∷ [])
unfolding alternative_named alternative_behind guard
alternative_known types numbers word number lt h = rw (lt-ltb (length numbers) 32 lt, h) refl

pub alternatives_start : (types words : List (List ℕ)) → alternatives_of types words ≡ through (alternative_named types) [] words
unfolding alternatives_of
alternatives_start types words = refl

pub ruleset alternative_steps = (through_steps, named_steps, alternatives_many, alternative_unknown, alternative_known, alternatives_start)

pub variable_typed : (argument_types : List (List ℕ)) (x : Word) (xs : List Word) (types : List ℕ) →
    argument_types_with argument_types (word_forms (x ∷ xs)) types ≡ argument_types_with (argument_types ++ types ∷ []) (word_forms xs) types
unfolding argument_types_with word_forms
variable_typed argument_types x xs types = rw append_assoc refl

pub none_typed : (argument_types : List (List ℕ)) (types : List ℕ) → argument_types_with argument_types (word_forms []) types ≡ argument_types
unfolding argument_types_with word_forms
none_typed argument_types types = append-nil argument_types

pub variable_at : (argument_types : List (List ℕ)) (ws : List Word) (i : ℕ) (types : List ℕ) → i < length ws →
    argument_types_with argument_types (word_forms (drop i ws)) types ≡ argument_types_with (argument_types ++ types ∷ []) (word_forms (drop (i + 1) ws)) types
variable_at argument_types [] i types lt = absurd (omega arith)
variable_at argument_types (w ∷ ws) i types lt =
    rw ((word_at (w ∷ ws) i w lt).1) (variable_typed argument_types (get_or (w ∷ ws) i w) (drop (i + 1) (w ∷ ws)) types)

pub ruleset variable_steps = (drop_all, variable_at, none_typed)

pub group_crowded : (types argument_types : List (List ℕ)) (g : groups.VariableGroup) → nat_le (length argument_types + length g.variables.items) 32 ≡ false →
    with_group_types types argument_types (variable_group_form g) ≡ None
unfolding with_group_types guard
group_crowded types argument_types g h = rw (words_counted g.variables.items, h) refl

pub group_untyped : (types argument_types : List (List ℕ)) (g : groups.VariableGroup) → alternatives_of types (name_forms g.kinds.items) ≡ None →
    with_group_types types argument_types (variable_group_form g) ≡ None
unfolding with_group_types
group_untyped types argument_types g h = rw h (guard_none (nat_le (length argument_types + length (word_forms g.variables.items)) 32))

pub group_typed : (types argument_types : List (List ℕ)) (g : groups.VariableGroup) (numbers : List ℕ) → nat_le (length argument_types + length g.variables.items) 32 ≡ true →
    alternatives_of types (name_forms g.kinds.items) ≡ Some numbers →
    with_group_types types argument_types (variable_group_form g) ≡ Some (argument_types_with argument_types (word_forms g.variables.items) numbers)
unfolding with_group_types guard
group_typed types argument_types g numbers h e = rw (words_counted g.variables.items, h, e) refl

pub ruleset group_steps = (group_crowded, group_untyped, group_typed)

pub groups_item : {S : Type 0} (step : S → VariableGroup → Option S) (state : S) (x : groups.VariableGroup) (xs : List groups.VariableGroup) →
    through step state (variable_groups (x ∷ xs)) ≡ through_behind step (step state (variable_group_form x)) (variable_groups xs)
unfolding variable_groups
groups_item step state x xs = through_item step state (variable_group_form x) (variable_groups xs)

pub groups_end : {S : Type 0} (step : S → VariableGroup → Option S) (state : S) → through step state (variable_groups []) ≡ Some state
unfolding variable_groups
groups_end step state = through_end step state

pub argument_types_start : (types : List (List ℕ)) (groups : List VariableGroup) → argument_types_of types groups ≡ through (with_group_types types) [] groups
unfolding argument_types_of
argument_types_start types groups = refl

-- where a group has argument types there is room for them
pub none_some : {A : Type 0} (x : A) → None ≡ Some x → ⊥
none_some x h = cc

room_kept : (types argument_types : List (List ℕ)) (group : VariableGroup) (more : List (List ℕ)) → with_group_types types argument_types group ≡ Some more → length more ≤ 32
unfolding with_group_types argument_types_with
room_kept types argument_types group more h = by (alternatives_of types group.types) h
  where
    by : (found : Option (List ℕ)) → guard (nat_le (length argument_types + length group.variables) 32) (option_map (λ ts. argument_types ++ map (λ _. ts) group.variables) found) ≡ Some more → length more ≤ 32
    by None e = absurd (let z : None ≡ Some more = sym (guard_none (nat_le (length argument_types + length group.variables) 32)) ∙ e in none_some more z)
    by (Some ts) e =
        let held = guard_held (nat_le (length argument_types + length group.variables) 32) (argument_types ++ map (λ _. ts) group.variables) more e in
        let le : length argument_types + length group.variables ≤ 32 = leb-true (length argument_types + length group.variables) 32 held.0 in
        rw (← held.1, length-append, length-map) le

pub room_stays : (types argument_types : List (List ℕ)) (g : groups.VariableGroup) (more : List (List ℕ)) →
    with_group_types types argument_types (variable_group_form g) ≡ Some more → length more ≤ 32
room_stays types argument_types g more h = room_kept types argument_types (variable_group_form g) more h

pub ruleset argument_types_steps = (through_steps, groups_item, groups_end, argument_types_start, room_stays)

pub position_found : (i : ℕ) (word : List ℕ) (x : Word) (xs : List Word) → is_same_word word x.text.now ≡ true →
    position_from (is_same_word word) i (word_forms (x ∷ xs)) ≡ Some i
unfolding word_forms
position_found i word x xs h = rw h refl

pub position_further : (i : ℕ) (word : List ℕ) (x : Word) (xs : List Word) → is_same_word word x.text.now ≡ false →
    position_from (is_same_word word) i (word_forms (x ∷ xs)) ≡ position_from (is_same_word word) (i + 1) (word_forms xs)
unfolding word_forms
position_further i word x xs h = rw h refl

pub position_none : (i : ℕ) (word : List ℕ) → position_from (is_same_word word) i (word_forms []) ≡ None
unfolding word_forms
position_none i word = refl

pub position_start : (names : List (List ℕ)) (word : List ℕ) → variable_number names word ≡ position_from (is_same_word word) 0 names
unfolding variable_number
position_start names word = refl

pub ruleset position_steps = (word_item_steps, position_found, position_further, position_none, position_start)

pub variables_many : (names : List Word) (word : List ℕ) → 32 ≤ length names → variable_named (word_forms names) word ≡ None
unfolding variable_named guard
variables_many names word le = rw (words_counted names, le-ltb (length names) 32 le) refl

pub variable_again : (names : List Word) (word : List ℕ) → is_some (variable_number (word_forms names) word) ≡ true → variable_named (word_forms names) word ≡ None
unfolding variable_named guard
variable_again names word h = by (nat_lt (length (word_forms names)) 32) (variable_number (word_forms names) word) h
  where
    by : (room : Bool) (found : Option ℕ) → is_some found ≡ true → guard (room && is_none found) (Some (word_forms names ++ word ∷ [])) ≡ None
    by room None e = cc
    by true (Some n) e = refl
    by false (Some n) e = refl

pub variable_new : (names : List Word) (word : List ℕ) → length names < 32 → is_some (variable_number (word_forms names) word) ≡ false →
    variable_named (word_forms names) word ≡ Some (word_forms names ++ word ∷ [])
unfolding variable_named guard
variable_new names word lt h = rw (words_counted names, lt-ltb (length names) 32 lt) (by (variable_number (word_forms names) word) h)
  where
    by : (found : Option ℕ) → is_some found ≡ false → guard (is_none found) (Some (word_forms names ++ word ∷ [])) ≡ Some (word_forms names ++ word ∷ [])
    by None e = refl
    by (Some n) e = cc

pub ruleset variable_named_steps = (variables_many, variable_again, variable_new, word_forms-push)

pub words_item : {S : Type 0} (step : S → List ℕ → Option S) (state : S) (x : Word) (xs : List Word) →
    through step state (word_forms (x ∷ xs)) ≡ through_behind step (step state x.text.now) (word_forms xs)
unfolding word_forms
words_item step state x xs = through_item step state x.text.now (word_forms xs)

pub words_end : {S : Type 0} (step : S → List ℕ → Option S) (state : S) → through step state (word_forms []) ≡ Some state
unfolding word_forms
words_end step state = through_end step state

pub ruleset words_steps = (word_item_steps, words_item, words_end)

pub group_unnamed : (types : List (List ℕ)) (parameters : TypedVariables) (g : groups.VariableGroup) →
    through variable_named parameters.names (word_forms g.variables.items) ≡ None → group_named types parameters (variable_group_form g) ≡ None
unfolding group_named variables_with
group_unnamed types parameters g h = rw h refl

pub group_without_types : (types : List (List ℕ)) (parameters : TypedVariables) (g : groups.VariableGroup) → alternatives_of types (name_forms g.kinds.items) ≡ None →
    group_named types parameters (variable_group_form g) ≡ None
unfolding group_named variables_with
group_without_types types parameters g h = rw h (by (through variable_named parameters.names (word_forms g.variables.items)))
  where
    by : (names : Option (List (List ℕ))) → variables_with parameters (word_forms g.variables.items) names None ≡ None
    by None = refl
    by (Some ns) = refl

pub group_both : (types : List (List ℕ)) (parameters : TypedVariables) (g : groups.VariableGroup) (names : List (List ℕ)) (numbers : List ℕ) →
    through variable_named parameters.names (word_forms g.variables.items) ≡ Some names → alternatives_of types (name_forms g.kinds.items) ≡ Some numbers →
    group_named types parameters (variable_group_form g) ≡ Some (record { names = names; types = argument_types_with parameters.types (word_forms g.variables.items) numbers })
unfolding group_named variables_with
group_both types parameters g names numbers h e = rw (h, e) refl

pub ruleset group_named_steps = (group_unnamed, group_without_types, group_both)

pub ruleset declared_steps = (groups_item, groups_end)

pub variables_start : (types : List (List ℕ)) (names : List Word) (argument_types : List (List ℕ)) (groups : List VariableGroup) → names ≡ [] → argument_types ≡ [] →
    through (group_named types) (record { names = word_forms names; types = argument_types }) groups ≡ variables_of types groups
unfolding variables_of
variables_start types names argument_types groups h e = rw (h, e, no_words) refl

pub ruleset variables_steps = (variables_start)
