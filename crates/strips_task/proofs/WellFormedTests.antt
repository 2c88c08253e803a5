-- What a test of a part says in the words of the definitions.

use Rattle.std.proofs.Common.{◌≡◌, ℕ, false, List, [], ◌∷◌, ap, slice_get, Some, None}
use Rattle.std.specs.Option.{option_map}
use Rattle.std.specs.Map.{values_of}
use Rattle.formulas.specs.declared.terms.Term.TheVariants.{Object}
use Rattle.strips_task.specs.Types.{fits}
use Rattle.strips_task.specs.WellFormed.{term_types, is_fitting}

module _ (parents indexes : List ℕ) where
  -- a variable has the types that it was given
  pub variable_fitting : (variables : List (List ℕ)) (index : ℕ) (types : List ℕ) → slice_get variables index ≡ Some types
      → is_fitting parents (slice_get variables index) indexes ≡ fits parents types indexes
  unfolding is_fitting
  variable_fitting variables index types e = ap (λ o. is_fitting parents o indexes) e

  -- and what is no variable fits nowhere
  pub variable_unknown : (variables : List (List ℕ)) (index : ℕ) → slice_get variables index ≡ None → is_fitting parents (slice_get variables index) indexes ≡ false
  unfolding is_fitting
  variable_unknown variables index e = ap (λ o. is_fitting parents o indexes) e

  module _ (objects : List (List ℕ × ℕ)) (params bound : List (List ℕ)) where
    -- an object has its one type
    pub object_fitting : (object type : ℕ) → slice_get (values_of objects) object ≡ Some type
        → is_fitting parents (term_types objects params bound (Object object)) indexes ≡ fits parents (type ∷ []) indexes
    unfolding term_types is_fitting
    object_fitting object type e = ap (λ o. is_fitting parents (option_map (λ t. t ∷ []) o) indexes) e

    -- and what is no object fits nowhere
    pub object_unknown : (object : ℕ) → slice_get (values_of objects) object ≡ None
        → is_fitting parents (term_types objects params bound (Object object)) indexes ≡ false
    unfolding term_types is_fitting
    object_unknown object e = ap (λ o. is_fitting parents (option_map (λ t. t ∷ []) o) indexes) e
