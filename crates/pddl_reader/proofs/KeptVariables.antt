-- What the types of variables and lists of variables keep.

use Rattle.std.proofs.Common.{◌≡◌, ℕ, ◌+◌, ◌<◌, ◌≤◌, ◌++◌, ◌&&◌, Bool, true, false, nat_le, nat_lt, is_none, List, [], ◌∷◌, length, map, Option, Some, None, refl, ◌∙◌, subst, arith, length-append}
use Rattle.std.proofs.lemmas.Bool.{leb-true, le-leb, ltb-true, lt-ltb, and_parts}
use Rattle.std.proofs.lemmas.List.{length-map}
use Rattle.std.proofs.lemmas.List.Folds.{list_all-append}
use Rattle.std.specs.List.{list_all}
use Rattle.std.specs.Option.{option_and_then, option_map}
use Rattle.strips_task.specs.WellFormed.{are_alternatives, are_variables}
use Rattle.pddl_reader.specs.declared.resolution.variables.DeclaredVariables.{DeclaredVariables}
use Rattle.pddl_reader.specs.Objects.{type_number}
use Rattle.pddl_syntax.specs.Optional.{guard, through}
use Rattle.pddl_reader.specs.Resolved.{variables_form}
use Rattle.pddl_syntax.specs.Syntax.{VariableGroup}
use Rattle.pddl_reader.specs.Variables.{alternative_behind, alternative_named, alternatives_of, argument_types_with, with_group_types, argument_types_of, TypedVariables, variable_number, variable_named, variables_with, group_named, no_variables, variables_of}
use Rattle.pddl_reader.proofs.KeptObjects.{type_number-within}
use Rattle.pddl_syntax.proofs.Guards.{guard_held}
use Rattle.pddl_reader.proofs.TableLemmas.{words_counted}
use Rattle.pddl_reader.proofs.Through.{through_keeps}
use Rattle.pddl_reader.proofs.VariableMeaning.{none_some}

-- numbers of types, no more than the limit
record AreTypes (count : ℕ) (numbers : List ℕ) : Type 0 where
  few : length numbers ≤ 32
  known : list_all (λ type. nat_lt type count) numbers ≡ true

alternative_kept_by : (count : ℕ) (numbers more : List ℕ) (number : Option ℕ) → ((n : ℕ) → number ≡ Some n → n < count) → AreTypes count numbers →
    guard (nat_lt (length numbers) 32) (alternative_behind numbers number) ≡ Some more → AreTypes count more
unfolding alternative_behind guard
alternative_kept_by count numbers more None within kept h = by (nat_lt (length numbers) 32) h
  where
    by : (test : Bool) → guard {A = List ℕ} test None ≡ Some more → AreTypes count more
    by true e = cc
    by false e = cc
alternative_kept_by count numbers more (Some n) within kept h =
    let held = guard_held (nat_lt (length numbers) 32) (numbers ++ n ∷ []) more h in
    let room : length numbers < 32 = ltb-true (length numbers) 32 held.0 in
    let grown : length (numbers ++ n ∷ []) ≤ 32 = rw length-append (omega arith) in
    let all : list_all (λ type. nat_lt type count) (numbers ++ n ∷ []) ≡ true =
    rw (list_all-append (λ type. nat_lt type count) numbers (n ∷ []), kept.known, lt-ltb n count (within n refl)) refl in
    subst (AreTypes count) held.1 (record { few = grown; known = all })

alternative_kept : (count : ℕ) (types : List (List ℕ)) → length types ≡ count → (numbers word more : List ℕ) → AreTypes count numbers →
    alternative_named types numbers word ≡ Some more → AreTypes count more
unfolding alternative_named
alternative_kept count types is numbers word more kept h =
    alternative_kept_by count numbers more (type_number types word)
    (λ n e. let lt : n < length types = type_number-within types word n e in omega arith) kept h

alternatives_kept : (parents : List ℕ) (types words : List (List ℕ)) (numbers : List ℕ) → length types ≡ length parents → alternatives_of types words ≡ Some numbers →
    are_alternatives parents numbers ≡ true
unfolding alternatives_of are_alternatives
alternatives_kept parents types words numbers is h =
    let kept = through_keeps (AreTypes (length parents)) (alternative_named types) (λ s x t k e. alternative_kept (length parents) types is s x t k e) [] words numbers
    (record { few = omega arith; known = refl }) h in
    rw (le-leb (length numbers) 32 kept.few, kept.known) refl

-- the types that variables may have
record AreArgumentTypes (parents : List ℕ) (argument_types : List (List ℕ)) : Type 0 where
  few : length argument_types ≤ 32
  typed : list_all (are_alternatives parents) argument_types ≡ true

all_alike : (test : List ℕ → Bool) (variables : List (List ℕ)) (types : List ℕ) → test types ≡ true → list_all test (map (λ _. types) variables) ≡ true
all_alike test [] types h = refl
all_alike test (v ∷ vs) types h = rw (h, all_alike test vs types h) refl

behind_typed : (parents : List ℕ) (argument_types variables : List (List ℕ)) (types : List ℕ) → list_all (are_alternatives parents) argument_types ≡ true →
    are_alternatives parents types ≡ true → list_all (are_alternatives parents) (argument_types_with argument_types variables types) ≡ true
unfolding argument_types_with
behind_typed parents argument_types variables types kept h =
    rw (list_all-append (are_alternatives parents) argument_types (map (λ _. types) variables), kept, all_alike (are_alternatives parents) variables types h) refl

pub behind-length : (argument_types variables : List (List ℕ)) (types : List ℕ) → length (argument_types_with argument_types variables types) ≡ length argument_types + length variables
unfolding argument_types_with
behind-length argument_types variables types = rw (length-append, length-map variables (λ (v : List ℕ). types)) refl

group_kept_by : (parents : List ℕ) (argument_types variables more : List (List ℕ)) (found : Option (List ℕ)) → ((ns : List ℕ) → found ≡ Some ns → are_alternatives parents ns ≡ true) →
    AreArgumentTypes parents argument_types → guard (nat_le (length argument_types + length variables) 32) (option_map (argument_types_with argument_types variables) found) ≡ Some more → AreArgumentTypes parents more
unfolding guard
group_kept_by parents argument_types variables more None known kept h = by (nat_le (length argument_types + length variables) 32) h
  where
    by : (test : Bool) → guard {A = List (List ℕ)} test None ≡ Some more → AreArgumentTypes parents more
    by true e = cc
    by false e = cc
group_kept_by parents argument_types variables more (Some ns) known kept h =
    let held = guard_held (nat_le (length argument_types + length variables) 32) (argument_types_with argument_types variables ns) more h in
    let room : length argument_types + length variables ≤ 32 = leb-true (length argument_types + length variables) 32 held.0 in
    let grown : length (argument_types_with argument_types variables ns) ≤ 32 = rw (behind-length argument_types variables ns) room in
    subst (AreArgumentTypes parents) held.1 (record { few = grown; typed = behind_typed parents argument_types variables ns kept.typed (known ns refl) })

group_kept : (parents : List ℕ) (types : List (List ℕ)) → length types ≡ length parents → (argument_types : List (List ℕ)) (group : VariableGroup) (more : List (List ℕ)) →
    AreArgumentTypes parents argument_types → with_group_types types argument_types group ≡ Some more → AreArgumentTypes parents more
unfolding with_group_types
group_kept parents types is argument_types group more kept h =
    group_kept_by parents argument_types group.variables more (alternatives_of types group.types) (λ ns e. alternatives_kept parents types group.types ns is e) kept h

-- the argument types of a predicate are such as a task may have
pub argument_types_kept : (parents : List ℕ) (types : List (List ℕ)) (groups : List VariableGroup) (argument_types : List (List ℕ)) → length types ≡ length parents →
    argument_types_of types groups ≡ Some argument_types → are_variables parents argument_types ≡ true
unfolding argument_types_of are_variables
argument_types_kept parents types groups argument_types is h =
    let kept = through_keeps (AreArgumentTypes parents) (with_group_types types) (group_kept parents types is) [] groups argument_types (record { few = omega arith; typed = refl }) h in
    rw (le-leb (length argument_types) 32 kept.few, kept.typed) refl

-- each variable has its types
pub record AreTyped (parents : List ℕ) (p : TypedVariables) : Type 0 where
  pub few : length p.names ≤ 32
  pub paired : length p.types ≡ length p.names
  pub typed : list_all (are_alternatives parents) p.types ≡ true

variable_counted : (names : List (List ℕ)) (word : List ℕ) (more : List (List ℕ)) → variable_named names word ≡ Some more →
    (length more ≡ length names + 1) × (length more ≤ 32)
unfolding variable_named
variable_counted names word more h =
    let held = guard_held (nat_lt (length names) 32 && is_none (variable_number names word)) (names ++ word ∷ []) more h in
    let room : length names < 32 = ltb-true (length names) 32 (and_parts (nat_lt (length names) 32) (is_none (variable_number names word)) held.0).0 in
    let grown : length (names ++ word ∷ []) ≡ length names + 1 = rw length-append refl in
    rw (← held.1) (grown, omega arith)

variables_counted : (names words more : List (List ℕ)) → length names ≤ 32 → through variable_named names words ≡ Some more →
    (length more ≡ length names + length words) × (length more ≤ 32)
unfolding through
variables_counted names [] more few h =
    let same : names ≡ more = cc in
    rw (← same) (omega arith, few)
variables_counted names (w ∷ ws) more few h =
    by (variable_named names w) (variable_counted names w) (λ ns k e. variables_counted ns ws more k e) h
  where
    by : (next : Option (List (List ℕ))) → ((ns : List (List ℕ)) → next ≡ Some ns → (length ns ≡ length names + 1) × (length ns ≤ 32)) →
        ((ns : List (List ℕ)) → length ns ≤ 32 → through variable_named ns ws ≡ Some more → (length more ≡ length ns + length ws) × (length more ≤ 32)) →
        option_and_then (λ ns. through variable_named ns ws) next ≡ Some more → (length more ≡ length names + length (w ∷ ws)) × (length more ≤ 32)
    by None first rest e = absurd (none_some more e)
    by (Some ns) first rest e =
        let one = first ns refl in
        let all = rest ns one.1 e in
        (omega (arith, one.0, all.0), all.1)

named_kept_by : (parents : List ℕ) (p : TypedVariables) (variables : List (List ℕ)) (more : TypedVariables) (names : Option (List (List ℕ))) (found : Option (List ℕ)) →
    ((ns : List (List ℕ)) → names ≡ Some ns → (length ns ≡ length p.names + length variables) × (length ns ≤ 32)) →
    ((ts : List ℕ) → found ≡ Some ts → are_alternatives parents ts ≡ true) → AreTyped parents p →
    variables_with p variables names found ≡ Some more → AreTyped parents more
unfolding variables_with
named_kept_by parents p variables more None found counted known kept h = cc
named_kept_by parents p variables more (Some ns) None counted known kept h = cc
named_kept_by parents p variables more (Some ns) (Some ts) counted known kept h =
    let same : record { names = ns; types = argument_types_with p.types variables ts } ≡ more = cc in
    let count = counted ns refl in
    let pairs : length (argument_types_with p.types variables ts) ≡ length ns =
    behind-length p.types variables ts ∙ (let e : length p.types ≡ length p.names = kept.paired in omega (arith, e, count.0)) in
    subst (AreTyped parents) same (record { few = count.1; paired = pairs; typed = behind_typed parents p.types variables ts kept.typed (known ts refl) })

pub named_kept : (parents : List ℕ) (types : List (List ℕ)) → length types ≡ length parents → (p : TypedVariables) (group : VariableGroup) (more : TypedVariables) →
    AreTyped parents p → group_named types p group ≡ Some more → AreTyped parents more
unfolding group_named
named_kept parents types is p group more kept h =
    named_kept_by parents p group.variables more (through variable_named p.names group.variables) (alternatives_of types group.types)
    (λ ns e. variables_counted p.names group.variables ns kept.few e) (λ ts e. alternatives_kept parents types group.types ts is e) kept h

all_kept : (parents : List ℕ) (types : List (List ℕ)) (groups : List VariableGroup) (p : TypedVariables) → length types ≡ length parents →
    variables_of types groups ≡ Some p → AreTyped parents p
unfolding variables_of
all_kept parents types groups p is h =
    through_keeps (AreTyped parents) (group_named types) (named_kept parents types is) no_variables groups p
    (record { few = omega arith; paired = refl; typed = refl }) h

-- variables that have their types pass the test
pub typed_variables : (parents : List ℕ) (p : TypedVariables) → AreTyped parents p → are_variables parents p.types ≡ true
unfolding are_variables
typed_variables parents p kept =
    let few : length p.types ≤ 32 = rw kept.paired kept.few in
    rw (le-leb (length p.types) 32 few, kept.typed) refl

-- the variables of a list are such as a task may have
pub variables_kept : (parents : List ℕ) (types : List (List ℕ)) (groups : List VariableGroup) (p : TypedVariables) → length types ≡ length parents →
    variables_of types groups ≡ Some p → are_variables parents p.types ≡ true
variables_kept parents types groups p is h = typed_variables parents p (all_kept parents types groups p is h)

-- each variable has types
pub variables_paired : (parents : List ℕ) (types : List (List ℕ)) (groups : List VariableGroup) (p : TypedVariables) → length types ≡ length parents →
    variables_of types groups ≡ Some p → length p.types ≡ length p.names
variables_paired parents types groups p is h = (all_kept parents types groups p is h).paired

group_few : (types : List (List ℕ)) (p : TypedVariables) (group : VariableGroup) (more : TypedVariables) → length p.names ≤ 32 → group_named types p group ≡ Some more →
    length more.names ≤ 32
unfolding group_named variables_with
group_few types p group more few h =
    by (through variable_named p.names group.variables) (alternatives_of types group.types) (λ ns e. variables_counted p.names group.variables ns few e) h
  where
    by : (names : Option (List (List ℕ))) (found : Option (List ℕ)) →
        ((ns : List (List ℕ)) → names ≡ Some ns → (length ns ≡ length p.names + length group.variables) × (length ns ≤ 32)) →
        variables_with p group.variables names found ≡ Some more → length more.names ≤ 32
    by None found counted e = cc
    by (Some ns) None counted e = cc
    by (Some ns) (Some ts) counted e =
        let same : record { names = ns; types = argument_types_with p.types group.variables ts } ≡ more = cc in
        rw (← same) (counted ns refl).1

-- there are no more variables than the limit
pub few_variables : (types : List (List ℕ)) (groups : List VariableGroup) (p : DeclaredVariables) → variables_of types groups ≡ Some (variables_form p) →
    length p.names.items ≤ 32
unfolding variables_of
few_variables types groups p h =
    let P : TypedVariables → Type 0 = λ q. length q.names ≤ 32 in
    rw (← words_counted p.names.items) (through_keeps P (group_named types) (group_few types) no_variables groups (variables_form p) (omega arith) h)
