-- Which parameters and variables a formula or an effect names: `params` is how many parameters the action has, and `bound` how many variables are bound around it.

use Rattle.std.specs.Prelude.{ℕ, ◌+◌, ◌<◌, All, length}
use Rattle.formulas.specs.declared.terms.Term.{Term}
use Rattle.formulas.specs.declared.terms.Term.TheVariants.{Param, Bound, Object}
use Rattle.formulas.specs.declared.terms.Pattern.{Pattern}
use Rattle.formulas.specs.Tree.{Tree, atom, equality, negation, conjunction, disjunction, implication, exists, for_all, Parts, no_parts, part}
use Rattle.formulas.specs.EffectTree.{EffectTree, change, joint, conditional, universal, EffectParts, no_effects, effect_part}
use Rattle.formulas.specs.Variables.{variable_types}

module _ (params : ℕ) where
  -- a term is a parameter of the action, a variable that is bound, or an object
  abbrev pub IsTermWithin : ℕ → Term → Type 0
  IsTermWithin bound (Param index) = index < params
  IsTermWithin bound (Bound level) = level < bound
  IsTermWithin bound (Object object) = Unit {0}

  -- all terms of a pattern are such terms
  abbrev pub IsPatternWithin : ℕ → Pattern → Type 0
  IsPatternWithin bound pattern = All (IsTermWithin bound) pattern.terms

  abbrev mutual
    -- all terms of a formula are such terms. The body of a quantifier may also name the quantifier's own variables
    pub IsWithin : ℕ → Tree → Type 0
    IsWithin bound (atom positive pattern) = IsPatternWithin bound pattern
    IsWithin bound (equality positive left right) = IsTermWithin bound left × IsTermWithin bound right
    IsWithin bound (negation tree) = IsWithin bound tree
    IsWithin bound (conjunction parts) = AreWithin bound parts
    IsWithin bound (disjunction parts) = AreWithin bound parts
    IsWithin bound (implication premise conclusion) = IsWithin bound premise × IsWithin bound conclusion
    IsWithin bound (exists groups body) = IsWithin (bound + length (variable_types groups)) body
    IsWithin bound (for_all groups body) = IsWithin (bound + length (variable_types groups)) body

    -- the same for each of several formulas
    pub AreWithin : ℕ → Parts → Type 0
    AreWithin bound no_parts = Unit {0}
    AreWithin bound (part tree parts) = IsWithin bound tree × AreWithin bound parts

  abbrev mutual
    -- all terms of an effect and of its conditions are such terms. What is under a `forall` may also name its variables
    pub IsEffectWithin : ℕ → EffectTree → Type 0
    IsEffectWithin bound (change positive pattern) = IsPatternWithin bound pattern
    IsEffectWithin bound (joint parts) = AreEffectsWithin bound parts
    IsEffectWithin bound (conditional condition effect) = IsWithin bound condition × IsEffectWithin bound effect
    IsEffectWithin bound (universal groups effect) = IsEffectWithin (bound + length (variable_types groups)) effect

    -- the same for each of several effects
    pub AreEffectsWithin : ℕ → EffectParts → Type 0
    AreEffectsWithin bound no_effects = Unit {0}
    AreEffectsWithin bound (effect_part effect parts) = IsEffectWithin bound effect × AreEffectsWithin bound parts
