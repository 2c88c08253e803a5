-- The variables that terms name, one equation for each case.

use Rattle.std.proofs.Common.{◌≡◌, ℕ, ◌+◌, ◌<◌, ◌≤◌, true, false, List, [], ◌∷◌, Option, Some, None, ◌++◌, take, refl, ap, if◌then◌else◌}
use Rattle.std.proofs.lemmas.Bool.{le-ltb, lt-ltb}
use Rattle.std.proofs.lemmas.List.{map-append, take-map}
use Rattle.formulas.specs.declared.terms.Term.TheVariants.{Param, Bound}
use Rattle.pddl_words.specs.Kinds.{is_same_word}
use Rattle.pddl_syntax.specs.declared.walk.Word.{Word}
use Rattle.pddl_syntax.specs.Forms.{word_forms}
use Rattle.pddl_syntax.specs.Optional.{guard}
use Rattle.pddl_reader.specs.Scopes.{Scope, last_number, bound_term, variable_by, variable_meant, scope_within}
use Rattle.pddl_reader.specs.Variables.{TypedVariables, variable_number}
use Rattle.pddl_reader.proofs.Items.{word_item_steps}

pub last_found : (word : List ℕ) (i : ℕ) (found : Option ℕ) (x : Word) (xs : List Word) → is_same_word word x.text.now ≡ true →
    last_number word i found (word_forms (x ∷ xs)) ≡ last_number word (i + 1) (Some i) (word_forms xs)
unfolding last_number word_forms
last_found word i found x xs h = ap (λ same. last_number word (i + 1) (if same then Some i else found) (word_forms xs)) h

pub last_further : (word : List ℕ) (i : ℕ) (found : Option ℕ) (x : Word) (xs : List Word) → is_same_word word x.text.now ≡ false →
    last_number word i found (word_forms (x ∷ xs)) ≡ last_number word (i + 1) found (word_forms xs)
unfolding last_number word_forms
last_further word i found x xs h = ap (λ same. last_number word (i + 1) (if same then Some i else found) (word_forms xs)) h

pub last_end : (word : List ℕ) (i : ℕ) (found : Option ℕ) → last_number word i found (word_forms []) ≡ found
unfolding last_number word_forms
last_end word i found = refl

pub ruleset last_steps = (word_item_steps, last_found, last_further, last_end)

pub level_too_high : (level : ℕ) → 65536 ≤ level → bound_term level ≡ None
unfolding bound_term guard
level_too_high level h = rw (le-ltb level 65536 h) refl

pub level_fits : (level : ℕ) → level < 65536 → bound_term level ≡ Some (Bound level)
unfolding bound_term guard
level_fits level h = rw (lt-ltb level 65536 h) refl

pub ruleset level_steps = (level_too_high, level_fits)

pub variable_bound : (scope : Scope) (word : List ℕ) (level : ℕ) → last_number word 0 None scope.bound.names ≡ Some level → variable_meant scope word ≡ bound_term level
unfolding variable_meant variable_by
variable_bound scope word level h = rw h refl

pub variable_free : (scope : Scope) (word : List ℕ) (number : ℕ) → last_number word 0 None scope.bound.names ≡ None →
    variable_number scope.parameters.names word ≡ Some number → variable_meant scope word ≡ Some (Param number)
unfolding variable_meant variable_by
variable_free scope word number h e = rw (h, e) refl

pub variable_unknown : (scope : Scope) (word : List ℕ) → last_number word 0 None scope.bound.names ≡ None → variable_number scope.parameters.names word ≡ None →
    variable_meant scope word ≡ None
unfolding variable_meant variable_by
variable_unknown scope word h e = rw (h, e) refl

pub ruleset variable_steps = (variable_bound, variable_free, variable_unknown)

-- the scope of these parameters and bound variables
abbrev pub scope_with : TypedVariables → List Word → List (List ℕ) → Scope
scope_with parameters names types = record { parameters = parameters; bound = record { names = word_forms names; types = types } }

pub entered : (parameters : TypedVariables) (names own more : List Word) (types own_types more_types : List (List ℕ)) (scope : Scope) →
    scope_with parameters names types ≡ scope → more ≡ names ++ own → more_types ≡ types ++ own_types →
    scope_with parameters more more_types ≡ scope_within scope (record { names = word_forms own; types = own_types })
unfolding scope_within word_forms
entered parameters names own more types own_types more_types scope is names_are types_are =
    rw (← is, names_are, types_are, map-append (λ (w : Word). w.text.now) names own) refl

pub left : (parameters : TypedVariables) (names fewer : List Word) (types fewer_types : List (List ℕ)) (scope : Scope) (depth : ℕ) →
    scope_with parameters names types ≡ scope → fewer ≡ take depth names → fewer_types ≡ take depth types →
    scope_with parameters fewer fewer_types ≡ record scope { bound = record { names = take depth scope.bound.names; types = take depth scope.bound.types } }
unfolding word_forms
left parameters names fewer types fewer_types scope depth is names_are types_are =
    rw (← is, names_are, types_are, take-map (λ (w : Word). w.text.now) depth names) refl
