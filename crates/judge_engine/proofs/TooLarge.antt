-- Which text is too large.

use Rattle.std.proofs.Common.{◌≡◌, ℕ, ◌+◌, ◌<◌, ◌≤◌, true, false, cond, List, ◌∷◌, length, map, drop, get_or, Option, None, Some, ap, sym, ◌∙◌, add-one, drop-cons, if◌then◌else◌}
use Rattle.std.proofs.lemmas.Bool.{lt-ltb, le-ltb}
use Rattle.std.proofs.lemmas.List.{drop_all}
use Rattle.std.specs.List.{position_from}
use Rattle.std.specs.Option.{option_map}
use Rattle.judge_engine.specs.declared.fault.Input.{Input}
use Rattle.judge_engine.specs.declared.fault.Input.TheVariants as input
use Rattle.judge_engine.specs.declared.inlet.TheConstants.{FILE_LIMIT}
use Rattle.judge_engine.specs.Answer.{too_large, is_over_limit}
use Rattle.judge_engine.specs.Bundle.{BundleValue}

-- a text over the limit, and one within it
over : (text : List ℕ) → FILE_LIMIT < length text → is_over_limit text ≡ true
over text h = lt-ltb FILE_LIMIT (length text) h

within : (text : List ℕ) → length text ≤ FILE_LIMIT → is_over_limit text ≡ false
within text h = le-ltb FILE_LIMIT (length text) h

-- the texts of the planners' files
abbrev texts : List BundleValue → List (List ℕ)
texts bundles = map (λ (bundle : BundleValue). bundle.bytes) bundles

-- the first planner's file from the i-th on that is over the limit
abbrev pub large_from : ℕ → List BundleValue → Option Input
large_from i bundles = option_map input.Plans (position_from is_over_limit i (texts (drop i bundles)))

-- the problem and the planners' files
abbrev rest : List ℕ → List BundleValue → Option Input
rest problem bundles = if is_over_limit problem then Some input.Problem else large_from 0 bundles

pub too_large_domain : (domain problem : List ℕ) (bundles : List BundleValue) → FILE_LIMIT < length domain → too_large domain problem bundles ≡ Some input.Domain
unfolding too_large
too_large_domain domain problem bundles h = ap (λ c. if c then Some input.Domain else rest problem bundles) (over domain h)

-- where the domain is within the limit, the others are looked at
others : (domain problem : List ℕ) (bundles : List BundleValue) → length domain ≤ FILE_LIMIT → too_large domain problem bundles ≡ rest problem bundles
unfolding too_large
others domain problem bundles h = ap (λ c. if c then Some input.Domain else rest problem bundles) (within domain h)

pub too_large_problem : (domain problem : List ℕ) (bundles : List BundleValue) → length domain ≤ FILE_LIMIT → FILE_LIMIT < length problem
    → too_large domain problem bundles ≡ Some input.Problem
too_large_problem domain problem bundles h k =
    others domain problem bundles h ∙ ap (λ c. if c then Some input.Problem else large_from 0 bundles) (over problem k)

-- where the domain and the problem are within the limit, the planners' files decide
pub too_large_bundles : (domain problem : List ℕ) (bundles : List BundleValue) → length domain ≤ FILE_LIMIT → length problem ≤ FILE_LIMIT
    → too_large domain problem bundles ≡ large_from 0 bundles
too_large_bundles domain problem bundles h k =
    others domain problem bundles h ∙ ap (λ c. if c then Some input.Problem else large_from 0 bundles) (within problem k)

module _ (bundles : List BundleValue) (i : ℕ) (bundle : BundleValue) (lt : i < length bundles) (is : bundle ≡ get_or bundles i bundle) where
  -- the i-th file comes first
  looked_at : large_from i bundles ≡ option_map input.Plans (cond (is_over_limit bundle.bytes) (Some i) (position_from is_over_limit (i + 1) (texts (drop (i + 1) bundles))))
  looked_at =
      ap (λ l. option_map input.Plans (position_from is_over_limit i (texts l))) (drop-cons bundles i bundle lt ∙ (λ j. sym is j ∷ drop (sym (add-one i) j) bundles))

  pub large_here : FILE_LIMIT < length bundle.bytes → large_from i bundles ≡ Some (input.Plans i)
  large_here h =
      looked_at ∙ ap (λ c. option_map input.Plans (cond c (Some i) (position_from is_over_limit (i + 1) (texts (drop (i + 1) bundles))))) (over bundle.bytes h)

  pub large_later : length bundle.bytes ≤ FILE_LIMIT → large_from i bundles ≡ large_from (i + 1) bundles
  large_later h =
      looked_at ∙ ap (λ c. option_map input.Plans (cond c (Some i) (position_from is_over_limit (i + 1) (texts (drop (i + 1) bundles))))) (within bundle.bytes h)

-- behind the last file there is none
pub large_none : (bundles : List BundleValue) (i : ℕ) → length bundles ≤ i → large_from i bundles ≡ None
large_none bundles i h = ap (λ l. option_map input.Plans (position_from is_over_limit i (texts l))) (drop_all i bundles h)
