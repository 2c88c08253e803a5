-- The code of an effect, which contracts need as they need that of a formula: the list of its signs, with each operator before its parts.

use Rattle.std.specs.Prelude.{◌≡◌, ℕ, zero, suc, Bool, List, [], ◌∷◌, ◌⊎◌, refl}
use Rattle.std.proofs.Common.{ap, ◌∙◌, inl, inr}
use Rattle.std.specs.Coded.{Coded, code_by, coded×, coded⊎, coded_list, coded_ℕ, coded_bool}
use Rattle.formulas.specs.declared.terms.Pattern.{Pattern}
use Rattle.formulas.specs.declared.variables.VariableGroup.{VariableGroup}
use Rattle.formulas.specs.Tree.{Tree}
use Rattle.formulas.specs.TreeCode.{pattern_code, group_code, tree_code}
use Rattle.formulas.specs.EffectTree.{EffectTree, change, joint, conditional, universal, EffectParts, no_effects, effect_part}

-- an atom with its sign
abbrev pub Change : Type 0
Change = Bool × Pattern

-- what an effect depends on: a condition, or variables
abbrev pub Guard : Type 0
Guard = Tree ⊎ List VariableGroup

-- an effect without parts, what the next effect depends on, or the number of an operator
abbrev pub Sign : Type 0
Sign = Change ⊎ (Guard ⊎ ℕ)

-- the code of a sign
abbrev pub sign_code : Coded Sign
sign_code = coded⊎ (coded× coded_bool pattern_code) (coded⊎ (coded⊎ tree_code (coded_list group_code)) coded_ℕ)

-- the signs of an effect, and then the others
abbrev mutual
  pub signs : EffectTree → List Sign → List Sign
  signs (change positive pattern) others = inl (positive, pattern) ∷ others
  signs (joint parts) others = inr (inr 0) ∷ part_signs parts others
  signs (conditional condition effect) others = inr (inl (inl condition)) ∷ signs effect others
  signs (universal groups effect) others = inr (inl (inr groups)) ∷ signs effect others

  pub part_signs : EffectParts → List Sign → List Sign
  part_signs no_effects others = inr (inr 1) ∷ others
  part_signs (effect_part effect parts) others = inr (inr 2) ∷ signs effect (part_signs parts others)

-- what a list of signs stands for, read from its end: the effects, and the lists of effects, that no operator has taken as its parts yet
abbrev pub Open : Type 0
Open = List EffectTree × List EffectParts

-- the effect that was read last, or any other if there is none
abbrev pub first_effect : List EffectTree → EffectTree
first_effect [] = joint no_effects
first_effect (effect ∷ effects) = effect

-- the effects without the one that was read last
abbrev pub later_effects : List EffectTree → List EffectTree
later_effects [] = []
later_effects (effect ∷ effects) = effects

-- the list that was read last, or the empty one if there is none
abbrev pub first_parts : List EffectParts → EffectParts
first_parts [] = no_effects
first_parts (parts ∷ lists) = parts

-- the lists without the one that was read last
abbrev pub later_parts : List EffectParts → List EffectParts
later_parts [] = []
later_parts (parts ∷ lists) = lists

-- an effect that depends on something
abbrev pub guarded_by : Guard → EffectTree → EffectTree
guarded_by (inl condition) effect = conditional condition effect
guarded_by (inr groups) effect = universal groups effect

-- what is left when the operator with this number has taken its parts: 0 makes an effect, 1 an empty list, and any other number a longer list
abbrev pub applied : ℕ → Open → Open
applied zero left = (joint (first_parts left.1) ∷ left.0, later_parts left.1)
applied (suc zero) left = (left.0, no_effects ∷ left.1)
applied (suc (suc number)) left = (later_effects left.0, effect_part (first_effect left.0) (first_parts left.1) ∷ later_parts left.1)

-- what is left when what an effect depends on was read
abbrev pub guarded : Guard → Open → Open
guarded guard left = (guarded_by guard (first_effect left.0) ∷ later_effects left.0, left.1)

-- what is left when one more sign was read
abbrev pub with_sign : Sign → Open → Open
with_sign (inl p) left = (change p.0 p.1 ∷ left.0, left.1)
with_sign (inr (inl guard)) left = guarded guard left
with_sign (inr (inr number)) left = applied number left

-- what a list of signs stands for
abbrev pub read : List Sign → Open
read [] = ([], [])
read (sign ∷ others) = with_sign sign (read others)

-- one more effect
abbrev pub with_effect : EffectTree → Open → Open
with_effect effect left = (effect ∷ left.0, left.1)

-- one more list
abbrev pub with_parts : EffectParts → Open → Open
with_parts parts left = (left.0, parts ∷ left.1)

-- reading the signs of an effect gives the effect
mutual
  pub read_signs : (effect : EffectTree) (others : List Sign) → read (signs effect others) ≡ with_effect effect (read others)
  read_signs (change positive pattern) others = refl
  read_signs (joint parts) others = ap (applied 0) (read_part_signs parts others)
  read_signs (conditional condition effect) others = ap (guarded (inl condition)) (read_signs effect others)
  read_signs (universal groups effect) others = ap (guarded (inr groups)) (read_signs effect others)

  pub read_part_signs : (parts : EffectParts) (others : List Sign) → read (part_signs parts others) ≡ with_parts parts (read others)
  read_part_signs no_effects others = refl
  read_part_signs (effect_part effect parts) others =
      ap (applied 2) (read_signs effect (part_signs parts others) ∙ ap (with_effect effect) (read_part_signs parts others))

-- the code of an effect
abbrev pub effect_code : Coded EffectTree
effect_code =
    code_by (List Sign) (coded_list sign_code) (λ effect. signs effect []) (λ list. first_effect (read list).0) (λ effect. ap (λ left. first_effect left.0) (read_signs effect []))
