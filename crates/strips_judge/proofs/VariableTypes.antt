-- The types of the variable with an index, found group by group.

use Rattle.std.proofs.Common.{◌≡◌, ℕ, ◌+◌, ◌-◌, ◌<◌, ◌≤◌, zero, suc, List, [], ◌∷◌, ◌++◌, Some, refl, ap, ◌∙◌, length, map, drop, get_or, slice_get, arith}
use Rattle.formulas.specs.declared.variables.VariableGroup.{VariableGroup}
use Rattle.formulas.specs.Variables.{variable_types}
use Rattle.strips_judge.proofs.Searches.{left}

among : {X Y : Type 0} (y : Y) (xs : List X) (more : List Y) (i : ℕ) → i < length xs → slice_get (map (λ x. y) xs ++ more) i ≡ Some y
among y [] more i lt = absurd (omega (arith, lt))
among y (x ∷ xs) more zero lt = refl
among y (x ∷ xs) more (suc i) lt = among y xs more i (omega (arith, lt))

past : {X Y : Type 0} (y : Y) (xs : List X) (more : List Y) (i : ℕ) → length xs ≤ i → slice_get (map (λ x. y) xs ++ more) i ≡ slice_get more (i - length xs)
past y [] more i le = ap (slice_get more) (let e : i ≡ i - 0 = omega arith in e)
past y (x ∷ xs) more zero le = absurd (omega (arith, le))
past y (x ∷ xs) more (suc i) le = past y xs more i (omega (arith, le)) ∙ ap (slice_get more) (let e : i - length xs ≡ suc i - suc (length xs) = omega arith in e)

module _ (groups : List VariableGroup) (index : ℕ) (group : VariableGroup) (lt : index < length groups) (is : group ≡ get_or groups index group) where
  from_here : variable_types (drop index groups) ≡ map (λ name. group.types) group.names ++ variable_types (drop (index + 1) groups)
  from_here = ap variable_types (left groups index group lt is)

  -- a variable of this group
  pub in_group : (variable : ℕ) → variable < length group.names → slice_get (variable_types (drop index groups)) variable ≡ Some group.types
  in_group variable within = ap (λ types. slice_get types variable) from_here ∙ among group.types group.names (variable_types (drop (index + 1) groups)) variable within

  -- a variable of a later group
  pub in_later_group : (variable : ℕ) → length group.names ≤ variable
      → slice_get (variable_types (drop index groups)) variable ≡ slice_get (variable_types (drop (index + 1) groups)) (variable - length group.names)
  in_later_group variable beyond = ap (λ types. slice_get types variable) from_here ∙ past group.types group.names (variable_types (drop (index + 1) groups)) variable beyond
