-- The variables of a quantifier have types, and are those of its groups.

use Rattle.std.proofs.Common.{◌≡◌, ℕ, ◌++◌, true, List, [], ◌∷◌, length, map, Option, Some, None, refl, ap, sym, ◌∙◌, subst, arith}
use Rattle.std.proofs.lemmas.List.{append-nil, length-map}
use Rattle.std.proofs.lemmas.Grind.{flat_map-append}
use Rattle.std.specs.Option.{option_map}
use Rattle.formulas.specs.declared.variables.VariableGroup as kept
use Rattle.formulas.specs.Variables.{variable_types}
use Rattle.strips_task.specs.WellFormed.{are_variables}
use Rattle.pddl_reader.specs.declared.resolution.quantifiers.BoundVariables as code
use Rattle.pddl_reader.specs.Resolved.{bound_form}
use Rattle.pddl_reader.specs.Scopes.{BoundVariables, unmarked, all_unmarked, kept_group, group_kept, bound_with, group_bound, none_bound, bound_by}
use Rattle.pddl_reader.specs.Variables.{TypedVariables, alternatives_of, argument_types_with, variable_named, variables_with, group_named}
use Rattle.pddl_syntax.specs.Optional.{followed_by, through}
use Rattle.pddl_syntax.specs.Syntax.{VariableGroup}
use Rattle.pddl_reader.proofs.KeptVariables.{AreTyped, named_kept, typed_variables}
use Rattle.pddl_reader.proofs.TableLemmas.{words_counted}
use Rattle.pddl_reader.proofs.Through.{through_keeps}

-- as many names as variables
alike_by : (types : List ℕ) (variables names : List (List ℕ)) (first : Option (List ℕ)) (rest : Option (List (List ℕ))) →
    ((ns : List (List ℕ)) → rest ≡ Some ns → map (λ _. types) ns ≡ map (λ _. types) variables) → followed_by first rest ≡ Some names →
    map (λ _. types) names ≡ types ∷ map (λ _. types) variables
unfolding followed_by
alike_by types variables names None rest same h = cc
alike_by types variables names (Some n) None same h = cc
alike_by types variables names (Some n) (Some ns) same h =
    let is : n ∷ ns ≡ names = cc in
    rw (← is) (ap (λ list. types ∷ list) (same ns refl))

alike : (types : List ℕ) (variables names : List (List ℕ)) → all_unmarked variables ≡ Some names → map (λ _. types) names ≡ map (λ _. types) variables
unfolding all_unmarked
alike types [] names h = let is : [] ≡ names = cc in rw (← is) refl
alike types (v ∷ vs) names h = alike_by types vs names (unmarked v) (all_unmarked vs) (λ ns e. alike types vs ns e) h

-- the variables have their types, which are those of their groups
pub record AreBound (parents : List ℕ) (bound : BoundVariables) : Type 0 where
  pub typed : AreTyped parents bound.declared
  pub grouped : bound.declared.types ≡ variable_types bound.groups

-- one more group of these types
grouped_more : (before : List (List ℕ)) (groups : List kept.VariableGroup) (variables names : List (List ℕ)) (types : List ℕ) → before ≡ variable_types groups →
    all_unmarked variables ≡ Some names → argument_types_with before variables types ≡ variable_types (groups ++ kept_group types names ∷ [])
unfolding argument_types_with
grouped_more before groups variables names types same h =
    ap (λ list. list ++ map (λ _. types) variables) same
    ∙ ap (λ list. variable_types groups ++ list) (sym (append-nil (map (λ _. types) names) ∙ alike types variables names h))
    ∙ sym (flat_map-append (λ (group : kept.VariableGroup). map (λ name. group.types) group.names) groups (kept_group types names ∷ []))

module _ (parents : List ℕ) (bound more : BoundVariables) (variables : List (List ℕ)) where
  kept_with : (declared : TypedVariables) (types : List ℕ) (names : Option (List (List ℕ))) → all_unmarked variables ≡ names → AreTyped parents declared →
      declared.types ≡ argument_types_with bound.declared.types variables types → AreBound parents bound →
      bound_with bound (Some declared) (option_map (kept_group types) names) ≡ Some more → AreBound parents more
  unfolding bound_with
  kept_with declared types None e typed same kept h = cc
  kept_with declared types (Some names) e typed same kept h =
      let is : record { declared = declared; groups = bound.groups ++ kept_group types names ∷ [] } ≡ more = cc in
      subst (AreBound parents) is (record { typed = typed; grouped = same ∙ grouped_more bound.declared.types bound.groups variables names types kept.grouped e })

  group_kept_by : (names : Option (List (List ℕ))) (types : Option (List ℕ)) →
      ((d : TypedVariables) → variables_with bound.declared variables names types ≡ Some d → AreTyped parents d) → AreBound parents bound →
      bound_with bound (variables_with bound.declared variables names types) (group_kept types variables) ≡ Some more → AreBound parents more
  unfolding variables_with bound_with group_kept
  group_kept_by None types typed kept h = cc
  group_kept_by (Some ns) None typed kept h = cc
  group_kept_by (Some ns) (Some ts) typed kept h =
      kept_with (record { names = ns; types = argument_types_with bound.declared.types variables ts }) ts (all_unmarked variables) refl (typed _ refl) refl kept h

group_bound_kept : (parents : List ℕ) (types : List (List ℕ)) → length types ≡ length parents → (bound : BoundVariables) (group : VariableGroup) (more : BoundVariables) →
    AreBound parents bound → group_bound types bound group ≡ Some more → AreBound parents more
unfolding group_bound group_named
group_bound_kept parents types is bound group more kept h =
    group_kept_by parents bound more group.variables (through variable_named bound.declared.names group.variables) (alternatives_of types group.types)
    (λ d e. named_kept parents types is bound.declared group d kept.typed e) kept h

-- the variables of a quantifier are such as a task may have
pub all_bound : (parents : List ℕ) (types : List (List ℕ)) (groups : List VariableGroup) (bound : BoundVariables) → length types ≡ length parents →
    bound_by types groups ≡ Some bound → AreBound parents bound
unfolding bound_by
all_bound parents types groups bound is h =
    through_keeps (AreBound parents) (group_bound types) (group_bound_kept parents types is) none_bound groups bound
    (record { typed = record { few = omega arith; paired = refl; typed = refl }; grouped = refl }) h

-- and so the test passes them
pub bound_variables : (parents : List ℕ) (types : List (List ℕ)) (groups : List VariableGroup) (bound : BoundVariables) → length types ≡ length parents →
    bound_by types groups ≡ Some bound → are_variables parents (variable_types bound.groups) ≡ true
bound_variables parents types groups bound is h =
    let all = all_bound parents types groups bound is h in
    rw (← all.grouped) (typed_variables parents bound.declared all.typed)

-- each has types
pub own_paired : (types : List (List ℕ)) (groups : List VariableGroup) (bound : code.BoundVariables) → bound_by types groups ≡ Some (bound_form bound) →
    length bound.declared.types ≡ length bound.declared.names.items
own_paired types groups bound h =
    (all_bound (map (λ _. 0) types) types groups (bound_form bound) (sym (length-map types (λ (_ : List ℕ). 0))) h).typed.paired ∙ words_counted bound.declared.names.items
