-- The code of an effect: the list of its signs in Polish notation, as for formulas.

use Rattle.std.specs.Prelude.{◌≡◌, ℕ, zero, suc, Bool, List, [], ◌∷◌, ◌⊎◌, refl}
use Rattle.std.proofs.Common.{ap, ◌∙◌, inl, inr}
use Rattle.std.specs.Coded.{Coded, code_by, coded×, coded⊎, coded_list, coded_ℕ, coded_bool}
use Rattle.pddl_syntax.specs.Syntax.{AtomForm, AmountForm, number_amount, function_amount, VariableGroup, FormulaForm, EffectForm, atom_effect, increase_effect, joint_effect, conditional_effect, universal_effect, EffectForms, no_effects, effect_then}
use Rattle.pddl_syntax.specs.FormulaCode.{atom_code, group_code, formula_code}

-- an amount as a number or a function
abbrev pub amount_to : AmountForm → ℕ ⊎ AtomForm
amount_to (number_amount number) = inl number
amount_to (function_amount function) = inr function

-- the amount of a number or a function
abbrev pub amount_by : ℕ ⊎ AtomForm → AmountForm
amount_by (inl number) = number_amount number
amount_by (inr function) = function_amount function

-- no amount is lost
pub amount_back : (amount : AmountForm) → amount_by (amount_to amount) ≡ amount
amount_back (number_amount number) = refl
amount_back (function_amount function) = refl

-- the code of an amount
abbrev pub amount_code : Coded AmountForm
amount_code = code_by (ℕ ⊎ AtomForm) (coded⊎ coded_ℕ atom_code) amount_to amount_by amount_back

-- an effect without parts: an atom with its sign, or an amount
abbrev pub Single : Type 0
Single = (Bool × AtomForm) ⊎ AmountForm

-- what an effect depends on: a condition, or variables
abbrev pub Guard : Type 0
Guard = FormulaForm ⊎ List VariableGroup

-- an effect without parts, what the next effect depends on, or the number of an operator
abbrev pub Sign : Type 0
Sign = Single ⊎ (Guard ⊎ ℕ)

-- the code of a sign
abbrev pub sign_code : Coded Sign
sign_code = coded⊎ (coded⊎ (coded× coded_bool atom_code) amount_code) (coded⊎ (coded⊎ formula_code (coded_list group_code)) coded_ℕ)

-- the signs of an effect, and then the others
abbrev mutual
  pub signs : EffectForm → List Sign → List Sign
  signs (atom_effect positive atom) others = inl (inl (positive, atom)) ∷ others
  signs (increase_effect amount) others = inl (inr amount) ∷ others
  signs (joint_effect effects) others = inr (inr 0) ∷ list_signs effects others
  signs (conditional_effect condition effect) others = inr (inl (inl condition)) ∷ signs effect others
  signs (universal_effect groups effect) others = inr (inl (inr groups)) ∷ signs effect others

  pub list_signs : EffectForms → List Sign → List Sign
  list_signs no_effects others = inr (inr 1) ∷ others
  list_signs (effect_then effect effects) others = inr (inr 2) ∷ signs effect (list_signs effects others)

-- what a list of signs stands for, read from its end: the effects, and the lists of effects, that no operator has taken as its parts yet
abbrev pub Open : Type 0
Open = List EffectForm × List EffectForms

-- the effect that was read last, or any other if there is none
abbrev pub first_effect : List EffectForm → EffectForm
first_effect [] = joint_effect no_effects
first_effect (effect ∷ effects) = effect

-- the effects without the one that was read last
abbrev pub later_effects : List EffectForm → List EffectForm
later_effects [] = []
later_effects (effect ∷ effects) = effects

-- the list that was read last, or the empty one if there is none
abbrev pub first_list : List EffectForms → EffectForms
first_list [] = no_effects
first_list (first ∷ lists) = first

-- the lists without the one that was read last
abbrev pub later_lists : List EffectForms → List EffectForms
later_lists [] = []
later_lists (first ∷ lists) = lists

-- the effect without parts
abbrev pub single_of : Single → EffectForm
single_of (inl p) = atom_effect p.0 p.1
single_of (inr amount) = increase_effect amount

-- an effect that depends on something
abbrev pub guarded_by : Guard → EffectForm → EffectForm
guarded_by (inl condition) effect = conditional_effect condition effect
guarded_by (inr groups) effect = universal_effect groups effect

-- what is left when the operator with this number has taken its parts: 0 makes an effect, 1 an empty list, and any other number a longer list
abbrev pub applied : ℕ → Open → Open
applied zero left = (joint_effect (first_list left.1) ∷ left.0, later_lists left.1)
applied (suc zero) left = (left.0, no_effects ∷ left.1)
applied (suc (suc number)) left = (later_effects left.0, effect_then (first_effect left.0) (first_list left.1) ∷ later_lists left.1)

-- what is left when what an effect depends on was read
abbrev pub guarded : Guard → Open → Open
guarded guard left = (guarded_by guard (first_effect left.0) ∷ later_effects left.0, left.1)

-- what is left when one more sign was read
abbrev pub with_sign : Sign → Open → Open
with_sign (inl single) left = (single_of single ∷ left.0, left.1)
with_sign (inr (inl guard)) left = guarded guard left
with_sign (inr (inr number)) left = applied number left

-- what a list of signs stands for
abbrev pub read : List Sign → Open
read [] = ([], [])
read (sign ∷ others) = with_sign sign (read others)

-- one more effect
abbrev pub with_effect : EffectForm → Open → Open
with_effect effect left = (effect ∷ left.0, left.1)

-- one more list
abbrev pub with_list : EffectForms → Open → Open
with_list effects left = (left.0, effects ∷ left.1)

-- reading the signs of an effect gives the effect
mutual
  pub read_signs : (effect : EffectForm) (others : List Sign) → read (signs effect others) ≡ with_effect effect (read others)
  read_signs (atom_effect positive atom) others = refl
  read_signs (increase_effect amount) others = refl
  read_signs (joint_effect effects) others = ap (applied 0) (read_list_signs effects others)
  read_signs (conditional_effect condition effect) others = ap (guarded (inl condition)) (read_signs effect others)
  read_signs (universal_effect groups effect) others = ap (guarded (inr groups)) (read_signs effect others)

  pub read_list_signs : (effects : EffectForms) (others : List Sign) → read (list_signs effects others) ≡ with_list effects (read others)
  read_list_signs no_effects others = refl
  read_list_signs (effect_then effect effects) others =
      ap (applied 2) (read_signs effect (list_signs effects others) ∙ ap (with_effect effect) (read_list_signs effects others))

-- the code of an effect
abbrev pub effect_code : Coded EffectForm
effect_code =
    code_by (List Sign) (coded_list sign_code) (λ effect. signs effect []) (λ list. first_effect (read list).0) (λ effect. ap (λ left. first_effect left.0) (read_signs effect []))
