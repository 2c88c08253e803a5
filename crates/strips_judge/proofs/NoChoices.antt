-- Quantifiers over a variable without objects.

use Rattle.std.proofs.Common.{◌≡◌, ℕ, ◌+◌, ◌<◌, zero, suc, Bool, false, cond, List, [], ◌∷◌, ◌++◌, refl, sym, ap, ◌∙◌, subst, Some, filter, length, map, get_or, slice_get, take, arith}
use Rattle.std.proofs.lemmas.List.Elements.{filter-append}
use Rattle.std.proofs.lemmas.Option.{get_or_from_slice_get}
use Rattle.std.specs.List.{flat_map}
use Rattle.formulas.specs.declared.variables.VariableGroup.{VariableGroup}
use Rattle.formulas.specs.Variables.{variable_types, extensions}
use Rattle.strips_judge.proofs.StepLaws.{taken_more}

-- none of the items so far passes, nor does the next one
pub none_passes_yet : {X : Type 0} (passes : X → Bool) (xs : List X) (i : ℕ) (x : X) → i < length xs → slice_get xs i ≡ Some x → filter passes (take i xs) ≡ [] → passes x ≡ false
    → filter passes (take (i + 1) xs) ≡ []
none_passes_yet passes xs i x lt at none fails =
    ap (filter passes) (taken_more xs i x lt (sym (get_or_from_slice_get xs i x x at)))
    ∙ filter-append passes (take i xs) (x ∷ [])
    ∙ ap (λ l. l ++ filter passes (x ∷ [])) none
    ∙ ap (λ b. cond b (x ∷ []) []) fails

flat_none : {X Y : Type 0} (f : X → List Y) → ((x : X) → f x ≡ []) → (xs : List X) → flat_map f xs ≡ []
flat_none f none [] = refl
flat_none f none (x ∷ xs) = ap (λ l. l ++ flat_map f xs) (none x) ∙ flat_none f none xs

module _ (objects_of : List ℕ → List ℕ) where
  -- there is no choice for variables of these types
  abbrev HaveNoChoice : List (List ℕ) → Type 0
  HaveNoChoice variables = (bound : List ℕ) → extensions objects_of variables bound ≡ []

  none_at_first : (types : List ℕ) (others : List (List ℕ)) → objects_of types ≡ [] → HaveNoChoice (types ∷ others)
  none_at_first types others empty bound = ap (flat_map (λ object. extensions objects_of others (bound ++ object ∷ []))) empty

  none_later : {X : Type 0} (types : List ℕ) (names : List X) (others : List (List ℕ)) → HaveNoChoice others → HaveNoChoice (map (λ name. types) names ++ others)
  none_later types [] others none bound = none bound
  none_later types (name ∷ names) others none bound =
      flat_none (λ object. extensions objects_of (map (λ n. types) names ++ others) (bound ++ object ∷ [])) (λ object. none_later types names others none (bound ++ object ∷ [])) (objects_of types)

  none_in_group : (group : VariableGroup) (others : List (List ℕ)) → (group.names ≡ [] → ⊥) → objects_of group.types ≡ [] → HaveNoChoice (map (λ name. group.types) group.names ++ others)
  none_in_group group others some empty = by group.names some
    where
      by : {X : Type 0} (names : List X) → (names ≡ [] → ⊥) → HaveNoChoice (map (λ name. group.types) names ++ others)
      by [] some = absurd (some refl)
      by (name ∷ names) some = none_at_first group.types (map (λ n. group.types) names ++ others) empty

  -- a group has variables and no object for them
  pub no_choice_at_all : (groups : List VariableGroup) (index : ℕ) (group : VariableGroup) → index < length groups → group ≡ get_or groups index group → (group.names ≡ [] → ⊥)
      → objects_of group.types ≡ [] → HaveNoChoice (variable_types groups)
  no_choice_at_all [] index group lt is some empty = absurd (omega (arith, lt))
  no_choice_at_all (first ∷ groups) zero group lt is some empty =
      subst (λ (g : VariableGroup). HaveNoChoice (map (λ name. g.types) g.names ++ variable_types groups)) is (none_in_group group (variable_types groups) some empty)
  no_choice_at_all (first ∷ groups) (suc index) group lt is some empty =
      none_later first.types first.names (variable_types groups) (no_choice_at_all groups index group (omega (arith, lt)) is some empty)
