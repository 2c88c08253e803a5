-- Terms that are looked up, of whatever types, are parameters of the action, variables that are bound, or objects of the task.

use Rattle.std.proofs.Common.{◌≡◌, ℕ, ◌+◌, ◌<◌, true, Bool, false, List, [], ◌∷◌, length, Option, Some, None, refl, subst, arith, ◌∙◌, if◌then◌else◌}
use Rattle.std.proofs.lemmas.Bool.{lt-ltb}
use Rattle.std.proofs.lemmas.List.{length-map}
use Rattle.std.specs.Map.{keys_of}
use Rattle.std.specs.Option.{option_map}
use Rattle.std.specs.Str.{bytes_eq}
use Rattle.pddl_words.specs.Kinds.{is_same_word}
use Rattle.pddl_words.specs.Words.{folded}
use Rattle.strips_task.specs.Names.{number_named}
use Rattle.formulas.specs.declared.terms.Term.{Term}
use Rattle.formulas.specs.declared.terms.Term.TheVariants.{Param, Bound, Object}
use Rattle.strips_task.specs.declared.tasks.TaskParts.{TaskParts}
use Rattle.strips_task.specs.WellFormed.{is_object, is_known}
use Rattle.pddl_syntax.specs.Heads.{is_variable}
use Rattle.pddl_syntax.proofs.Guards.{guard_held}
use Rattle.pddl_reader.specs.Declarations.{object_number, term_named}
use Rattle.pddl_reader.specs.Scopes.{Scope, last_number, bound_term, variable_by, variable_meant}
use Rattle.pddl_reader.specs.Variables.{TypedVariables, variable_number}
use Rattle.pddl_reader.proofs.FittingAtoms.{known_of}
use Rattle.pddl_reader.proofs.NamedValues.{position-within}

pub option_map_some : {A B : Type 0} (f : A → B) (x : Option A) (y : B) → option_map f x ≡ Some y → (z : A) × (x ≡ Some z) × (f z ≡ y)
option_map_some f None y h = absurd cc
option_map_some f (Some z) y h = (z, refl, cc)

-- each variable has types
abbrev pub IsPaired : TypedVariables → Type 0
IsPaired q = length q.types ≡ length q.names

-- each parameter and each bound variable has types
pub record IsScope (scope : Scope) : Type 0 where
  pub parameters : IsPaired scope.parameters
  pub bound : IsPaired scope.bound

-- the number of an object is one of theirs
pub object_known : (task : TaskParts) (word : List ℕ) (n : ℕ) → object_number task.objects word ≡ Some n → is_object task n ≡ true
unfolding object_number number_named is_object
object_known task word n h =
    let within : n < 0 + length (keys_of task.objects) = position-within (bytes_eq (folded word)) (keys_of task.objects) 0 n h in
    lt-ltb n (length task.objects) (omega (arith, within, length-map task.objects (λ (entry : List ℕ × ℕ). entry.0)))

last-within : (word : List ℕ) (next : ℕ) (found : Option ℕ) (names : List (List ℕ)) (n : ℕ) → ((m : ℕ) → found ≡ Some m → m < next) → last_number word next found names ≡ Some n →
    n < next + length names
unfolding last_number
last-within word next found [] n before h = omega (arith, before n h)
last-within word next found (name ∷ names) n before h =
    omega (arith, last-within word (next + 1) (if is_same_word word name then Some next else found) names n (by (is_same_word word name)) h)
  where
    by : (same : Bool) (m : ℕ) → (if same then Some next else found) ≡ Some m → m < next + 1
    by true m e = let is : next ≡ m = cc in omega (arith, is)
    by false m e = omega (arith, before m e)

module _ (task : TaskParts) (scope : Scope) (is : IsScope scope) (word : List ℕ) where
  parameter_known : (n : ℕ) → variable_number scope.parameters.names word ≡ Some n → is_known task scope.parameters.types scope.bound.types (Param n) ≡ true
  unfolding variable_number is_known
  parameter_known n h =
      let within : n < 0 + length scope.parameters.names = position-within (is_same_word word) scope.parameters.names 0 n h in
      lt-ltb n (length scope.parameters.types) (omega (arith, within, is.parameters))

  bound_known : (n : ℕ) → last_number word 0 None scope.bound.names ≡ Some n → is_known task scope.parameters.types scope.bound.types (Bound n) ≡ true
  unfolding is_known
  bound_known n h =
      let within : n < 0 + length scope.bound.names = last-within word 0 None scope.bound.names n (λ m e. absurd cc) h in
      lt-ltb n (length scope.bound.types) (omega (arith, within, is.bound))

  variable_known_by : (level number : Option ℕ) (t : Term) → last_number word 0 None scope.bound.names ≡ level → variable_number scope.parameters.names word ≡ number →
      variable_by level number ≡ Some t → is_known task scope.parameters.types scope.bound.types t ≡ true
  unfolding variable_by bound_term
  variable_known_by (Some level) number t found too h =
      let held = guard_held _ (Bound level) t h in
      subst (λ x. is_known task scope.parameters.types scope.bound.types x ≡ true) held.1 (bound_known level found)
  variable_known_by None number t found too h =
      let known = option_map_some (λ n. Param n) number t h in
      subst (λ x. is_known task scope.parameters.types scope.bound.types x ≡ true) known.2 (parameter_known known.0 (too ∙ known.1))

  variable_known : (t : Term) → variable_meant scope word ≡ Some t → is_known task scope.parameters.types scope.bound.types t ≡ true
  unfolding variable_meant
  variable_known t h = variable_known_by (last_number word 0 None scope.bound.names) (variable_number scope.parameters.names word) t refl refl h

  constant_known : (n : ℕ) → object_number task.objects word ≡ Some n → is_known task scope.parameters.types scope.bound.types (Object n) ≡ true
  unfolding is_known
  constant_known n h = object_known task word n h

  term_known_by : (variable : Bool) (t : Term) →
      (if variable then variable_meant scope word else option_map (λ number. Object number) (object_number task.objects word)) ≡ Some t →
      is_known task scope.parameters.types scope.bound.types t ≡ true
  term_known_by true t h = variable_known t h
  term_known_by false t h =
      let found = option_map_some (λ number. Object number) (object_number task.objects word) t h in
      subst (λ x. is_known task scope.parameters.types scope.bound.types x ≡ true) found.2 (constant_known found.0 found.1)

  -- a term that a word names is a parameter, a bound variable or an object
  pub term_known : (t : Term) → term_named (known_of task) scope word ≡ Some t → is_known task scope.parameters.types scope.bound.types t ≡ true
  unfolding term_named
  term_known t h = term_known_by (is_variable word) t h
