-- Effects as trees (PDDL 2.1, Fox and Long 2003, section 6).

use Rattle.std.specs.Prelude.{ℕ, ◌+◌, max, Bool, List, [], ◌∷◌}
use Rattle.formulas.specs.declared.terms.Pattern.{Pattern}
use Rattle.formulas.specs.declared.variables.VariableGroup.{VariableGroup}
use Rattle.formulas.specs.Tree.{Tree}

-- effects, and lists of them
mutual
  -- an atom that becomes true or false, or other effects under `and`, `when` or `forall`
  pub data EffectTree : Type 0 where
    change : Bool → Pattern → EffectTree
    joint : EffectParts → EffectTree
    conditional : Tree → EffectTree → EffectTree
    universal : List VariableGroup → EffectTree → EffectTree

  -- a list of effects
  pub data EffectParts : Type 0 where
    no_effects : EffectParts
    effect_part : EffectTree → EffectParts → EffectParts

-- a list of effects, as the parts of one
abbrev pub effect_parts_of : List EffectTree → EffectParts
effect_parts_of [] = no_effects
effect_parts_of (effect ∷ effects) = effect_part effect (effect_parts_of effects)

-- how many effects are around the one that is deepest inside
abbrev mutual
  pub effect_height : EffectTree → ℕ
  effect_height (change positive pattern) = 0
  effect_height (joint parts) = most_effect_height parts + 1
  effect_height (conditional condition effect) = effect_height effect + 1
  effect_height (universal groups effect) = effect_height effect + 1

  pub most_effect_height : EffectParts → ℕ
  most_effect_height no_effects = 0
  most_effect_height (effect_part effect parts) = max (effect_height effect) (most_effect_height parts)
