-- Terms with objects put in for the variables that are bound.

use Rattle.std.proofs.Common.{◌≡◌, ℕ, ◌-◌, Bool, true, false, cond, nat_lt, length, slice_index, ◌≤◌, List, [], ◌∷◌, map, refl, ap, sym, ◌∙◌, arith}
use Rattle.std.proofs.lemmas.Bool.Decides.{nat_tests}
use Rattle.std.proofs.lemmas.List.{get_or_past}
use Rattle.formulas.specs.declared.terms.Term.{Term}
use Rattle.formulas.specs.declared.terms.Term.TheVariants.{Param, Bound, Object}
use Rattle.formulas.specs.declared.terms.Pattern.{Pattern}
use Rattle.formulas.specs.Grounding.{term_with, pattern_with}
use Rattle.formulas.specs.Meaning.{object_of, atom_of}

none_below : (index : ℕ) → nat_lt index 0 ≡ false
none_below index = grind (arith, nat_tests)

is_past : (index count : ℕ) → nat_lt index count ≡ false → count ≤ index
is_past index count past = grind (arith, nat_tests)

-- without objects for parameters, a parameter stays
pub parameter_stays : (bound : List ℕ) (index : ℕ) → term_with [] bound (Param index) ≡ Param index
parameter_stays bound index = ap (λ known. cond known (Object (slice_index [] index)) (Param index)) (none_below index)

-- without objects for variables, a variable stays
variable_stays : (objects : List ℕ) (level : ℕ) → term_with objects [] (Bound level) ≡ Bound level
variable_stays objects level =
    let less : level - 0 ≡ level = omega arith in
    ap (λ known. cond known (Object (slice_index [] level)) (Bound (level - 0))) (none_below level) ∙ ap Bound less

module _ (bound : List ℕ) where
  -- a term with objects put in for variables stands for the object that it stood for
  module _ (arguments : List ℕ) where
    variable_means : (level : ℕ) (known : Bool) → nat_lt level (length bound) ≡ known
        → object_of arguments [] (cond known (Object (slice_index bound level)) (Bound (level - length bound))) ≡ slice_index bound level
    variable_means level true below = refl
    variable_means level false past = sym (get_or_past bound level 0 (is_past level (length bound) past))

    pub term_means : (term : Term) → object_of arguments [] (term_with [] bound term) ≡ object_of arguments bound term
    term_means (Param index) = ap (object_of arguments []) (parameter_stays bound index)
    term_means (Bound level) = variable_means level (nat_lt level (length bound)) refl
    term_means (Object object) = refl

    terms_mean : (terms : List Term) → map (object_of arguments []) (map (term_with [] bound) terms) ≡ map (object_of arguments bound) terms
    terms_mean [] = refl
    terms_mean (term ∷ terms) = λ j. term_means term j ∷ terms_mean terms j

    pub atom_means : (pattern : Pattern) → atom_of arguments [] (pattern_with [] bound pattern) ≡ atom_of arguments bound pattern
    atom_means pattern = λ j. record { pred = pattern.pred; args = terms_mean pattern.terms j }

  -- objects may be put in for parameters before or after those for variables
  module _ (objects : List ℕ) where
    pub term_grounded : (term : Term) → term_with objects [] (term_with [] bound term) ≡ term_with [] bound (term_with objects [] term)
    term_grounded (Param index) = ap (term_with objects []) (parameter_stays bound index) ∙ by (nat_lt index (length objects))
      where
        by : (known : Bool) → cond known (Object (slice_index objects index)) (Param index) ≡ term_with [] bound (cond known (Object (slice_index objects index)) (Param index))
        by true = refl
        by false = sym (parameter_stays bound index)
    term_grounded (Bound level) = by (nat_lt level (length bound)) ∙ sym (ap (term_with [] bound) (variable_stays objects level))
      where
        by : (known : Bool) → term_with objects [] (cond known (Object (slice_index bound level)) (Bound (level - length bound)))
            ≡ cond known (Object (slice_index bound level)) (Bound (level - length bound))
        by true = refl
        by false = variable_stays objects (level - length bound)
    term_grounded (Object object) = refl

    terms_grounded : (terms : List Term) → map (term_with objects []) (map (term_with [] bound) terms) ≡ map (term_with [] bound) (map (term_with objects []) terms)
    terms_grounded [] = refl
    terms_grounded (term ∷ terms) = λ j. term_grounded term j ∷ terms_grounded terms j

    pub pattern_grounded : (pattern : Pattern) → pattern_with objects [] (pattern_with [] bound pattern) ≡ pattern_with [] bound (pattern_with objects [] pattern)
    pattern_grounded pattern = λ j. record { pred = pattern.pred; terms = terms_grounded pattern.terms j }
