-- What effects stand for, one equation for each case.

use Rattle.std.proofs.Common.{◌≡◌, ℕ, ◌++◌, Bool, true, false, List, [], ◌∷◌, Option, Some, None, refl}
use Rattle.std.proofs.lemmas.List.{append-nil}
use Rattle.std.specs.Option.{option_map}
use Rattle.formulas.specs.declared.terms.Pattern.{Pattern}
use Rattle.formulas.specs.declared.variables.VariableGroup as kept
use Rattle.formulas.specs.EffectTree.{EffectTree, change, joint, conditional, universal, effect_parts_of}
use Rattle.formulas.specs.Tree.{Tree}
use Rattle.strips_task.specs.declared.amounts.Amount.{Amount}
use Rattle.pddl_syntax.specs.Optional.{through, with_front}
use Rattle.pddl_syntax.specs.Syntax.{AtomForm, AmountForm, VariableGroup, FormulaForm, EffectForm, atom_effect, increase_effect, joint_effect, conditional_effect, universal_effect, EffectForms, no_effects, effects_of as effect_forms}
use Rattle.pddl_reader.specs.declared.resolution.effects.Effects.{Effects}
use Rattle.pddl_reader.specs.Conditions.{tree_meant}
use Rattle.pddl_reader.specs.Declarations.{Known, pattern_of}
use Rattle.pddl_reader.specs.Effects.{conditional_by, effect_meant, effects_meant, single_effects, all_single_effects, nothing_happens, changed, with_change, increased, joined, with_effect, effects_of}
use Rattle.pddl_reader.specs.Functions.{Vocabulary, with_increase}
use Rattle.pddl_reader.specs.Bindings.{entered}
use Rattle.pddl_reader.specs.Scopes.{Scope, bound_by}
use Rattle.pddl_reader.proofs.ConditionMeaning.{mapped_none, mapped_some}
use Rattle.pddl_reader.proofs.Items.{item_steps}
use Rattle.pddl_reader.proofs.QuantifierMeaning.{not_quantified, body_refused, body_given}
use Rattle.pddl_reader.proofs.Through.{through_behind, through_append, through_one, behind_none, behind_some, through_end}
use Rattle.pddl_syntax.proofs.ListsOf.{with_front-followed_by, with_item, item_none, item_some, front_none}

pub changed_added : (effects : Effects) (positive : Bool) (pattern : Pattern) (add : List Pattern) → positive ≡ true → add ≡ effects.add ++ pattern ∷ [] →
    record { add = add; del = effects.del; inner = effects.inner; increases = effects.increases } ≡ changed effects positive pattern
unfolding changed
changed_added effects positive pattern add h e = rw (h, e) refl

pub changed_deleted : (effects : Effects) (positive : Bool) (pattern : Pattern) (del : List Pattern) → positive ≡ false → del ≡ effects.del ++ pattern ∷ [] →
    record { add = effects.add; del = del; inner = effects.inner; increases = effects.increases } ≡ changed effects positive pattern
unfolding changed
changed_deleted effects positive pattern del h e = rw (h, e) refl

pub change_none : (effects : Effects) (positive : Bool) → with_change effects positive None ≡ None
unfolding with_change
change_none effects positive = refl

pub change_some : (effects : Effects) (positive : Bool) (pattern : Pattern) → with_change effects positive (Some pattern) ≡ Some (changed effects positive pattern)
unfolding with_change
change_some effects positive pattern = refl

pub ruleset change_steps = (change_none, change_some)

module _ (types : List (List ℕ)) (known : Known) (scope : Scope) where
  pub atom_meant : (positive : Bool) (atom : AtomForm) → effect_meant types known scope (atom_effect positive atom) ≡ option_map (change positive) (pattern_of known scope atom)
  unfolding effect_meant
  atom_meant positive atom = refl

  pub increase_none : (amount : AmountForm) → effect_meant types known scope (increase_effect amount) ≡ None
  unfolding effect_meant
  increase_none amount = refl

  pub joint_none : (parts : EffectForms) → effects_meant types known scope parts ≡ None → effect_meant types known scope (joint_effect parts) ≡ None
  unfolding effect_meant
  joint_none parts h = rw h refl

  pub joint_some : (parts : EffectForms) (es : List EffectTree) → effects_meant types known scope parts ≡ Some es →
      effect_meant types known scope (joint_effect parts) ≡ Some (joint (effect_parts_of es))
  unfolding effect_meant
  joint_some parts es h = rw h refl

  pub no_condition : (condition : FormulaForm) (effect : EffectForm) → tree_meant types known scope condition ≡ None →
      effect_meant types known scope (conditional_effect condition effect) ≡ None
  unfolding effect_meant conditional_by
  no_condition condition effect h = rw h refl

  pub no_effect : (condition : FormulaForm) (effect : EffectForm) (c : Tree) → tree_meant types known scope condition ≡ Some c → effect_meant types known scope effect ≡ None →
      effect_meant types known scope (conditional_effect condition effect) ≡ None
  unfolding effect_meant conditional_by
  no_effect condition effect c h e = rw (h, e) refl

  pub conditional_some : (condition : FormulaForm) (effect : EffectForm) (c : Tree) (x : EffectTree) → tree_meant types known scope condition ≡ Some c →
      effect_meant types known scope effect ≡ Some x → effect_meant types known scope (conditional_effect condition effect) ≡ Some (conditional c x)
  unfolding effect_meant conditional_by
  conditional_some condition effect c x h e = rw (h, e) refl

  pub binding_none : (groups : List VariableGroup) (body : EffectForm) → entered scope (bound_by types groups) ≡ None →
      effect_meant types known scope (universal_effect groups body) ≡ None
  unfolding effect_meant
  binding_none groups body h = rw (not_quantified scope (bound_by types groups) (λ s. effect_meant types known s body) h) refl

  pub body_none : (groups : List VariableGroup) (body : EffectForm) (own : List kept.VariableGroup) (inner : Scope) → entered scope (bound_by types groups) ≡ Some (own, inner) →
      effect_meant types known inner body ≡ None → effect_meant types known scope (universal_effect groups body) ≡ None
  unfolding effect_meant
  body_none groups body own inner h e = rw (body_refused scope inner (bound_by types groups) own (λ s. effect_meant types known s body) h e) refl

  pub body_some : (groups : List VariableGroup) (body : EffectForm) (own : List kept.VariableGroup) (inner : Scope) (x : EffectTree) →
      entered scope (bound_by types groups) ≡ Some (own, inner) → effect_meant types known inner body ≡ Some x →
      effect_meant types known scope (universal_effect groups body) ≡ Some (universal own x)
  unfolding effect_meant
  body_some groups body own inner x h e = rw (body_given scope inner (bound_by types groups) own (λ s. effect_meant types known s body) x h e) refl

  pub effects_item : (front : List EffectTree) (effect : EffectForm) (effects : List EffectForm) →
      with_front front (effects_meant types known scope (effect_forms (effect ∷ effects)))
      ≡ with_item front (effect_meant types known scope effect) (effects_meant types known scope (effect_forms effects))
  unfolding effects_meant
  effects_item front effect effects = with_front-followed_by front (effect_meant types known scope effect) (effects_meant types known scope (effect_forms effects))

  pub effects_end : (front : List EffectTree) → with_front front (effects_meant types known scope (effect_forms [])) ≡ Some front
  unfolding effects_meant with_front
  effects_end front = rw append-nil refl

pub ruleset effect_steps = (atom_meant, increase_none, no_condition, no_effect, conditional_some)

pub ruleset joint_steps = (item_steps, front_none, effects_item, effects_end, item_none, item_some, joint_none, joint_some)

pub ruleset quantified_steps = (binding_none, body_none, body_some)

pub ruleset inner_steps = (mapped_none, mapped_some)

pub joint_single : (parts : EffectForms) → single_effects (joint_effect parts) ≡ all_single_effects parts
unfolding single_effects
joint_single parts = refl

module _ {S : Type 0} (step : S → EffectForm → Option S) (state : S) where
  pub one_atom : (positive : Bool) (atom : AtomForm) → through step state (single_effects (atom_effect positive atom)) ≡ step state (atom_effect positive atom)
  unfolding single_effects
  one_atom positive atom = through_one step state (atom_effect positive atom)

  pub one_increase : (amount : AmountForm) → through step state (single_effects (increase_effect amount)) ≡ step state (increase_effect amount)
  unfolding single_effects
  one_increase amount = through_one step state (increase_effect amount)

  pub one_conditional : (condition : FormulaForm) (effect : EffectForm) →
      through step state (single_effects (conditional_effect condition effect)) ≡ step state (conditional_effect condition effect)
  unfolding single_effects
  one_conditional condition effect = through_one step state (conditional_effect condition effect)

  pub one_universal : (groups : List VariableGroup) (effect : EffectForm) →
      through step state (single_effects (universal_effect groups effect)) ≡ step state (universal_effect groups effect)
  unfolding single_effects
  one_universal groups effect = through_one step state (universal_effect groups effect)

  pub single_item : (effect : EffectForm) (effects : List EffectForm) → through step state (all_single_effects (effect_forms (effect ∷ effects)))
      ≡ through_behind step (through step state (single_effects effect)) (all_single_effects (effect_forms effects))
  unfolding single_effects
  single_item effect effects = through_append step state (single_effects effect) (all_single_effects (effect_forms effects))

  pub single_end : through step state (all_single_effects (effect_forms [])) ≡ Some state
  unfolding single_effects
  single_end = through_end step state

module _ (types : List (List ℕ)) (v : Vocabulary) (scope : Scope) (effects : Effects) where
  pub effect_of_atom : (positive : Bool) (atom : AtomForm) →
      with_effect types v scope effects (atom_effect positive atom) ≡ with_change effects positive (pattern_of v.atoms scope atom)
  unfolding with_effect
  effect_of_atom positive atom = refl

  pub effect_no_increase : (amount : AmountForm) → with_increase v scope effects.increases amount ≡ None → with_effect types v scope effects (increase_effect amount) ≡ None
  unfolding with_effect
  effect_no_increase amount h = rw h refl

  pub effect_increase : (amount : AmountForm) (increases : List Amount) → with_increase v scope effects.increases amount ≡ Some increases →
      with_effect types v scope effects (increase_effect amount) ≡ Some (increased effects increases)
  unfolding with_effect
  effect_increase amount increases h = rw h refl

  pub effect_of_parts : (parts : EffectForms) → with_effect types v scope effects (joint_effect parts)
      ≡ option_map (joined effects) (effect_meant types v.atoms scope (joint_effect parts))
  unfolding with_effect
  effect_of_parts parts = refl

  pub effect_of_condition : (condition : FormulaForm) (effect : EffectForm) → with_effect types v scope effects (conditional_effect condition effect)
      ≡ option_map (joined effects) (effect_meant types v.atoms scope (conditional_effect condition effect))
  unfolding with_effect
  effect_of_condition condition effect = refl

  pub effect_of_quantifier : (groups : List VariableGroup) (effect : EffectForm) → with_effect types v scope effects (universal_effect groups effect)
      ≡ option_map (joined effects) (effect_meant types v.atoms scope (universal_effect groups effect))
  unfolding with_effect
  effect_of_quantifier groups effect = refl

pub ruleset single_steps = (effect_of_atom, effect_no_increase, effect_increase, effect_of_parts, effect_of_condition, effect_of_quantifier)

pub ruleset conjunct_steps = (joint_single, one_atom, one_increase, one_conditional, one_universal)

pub ruleset all_single_steps = (item_steps, single_item, single_end, behind_none, behind_some)

pub effects_start : (types : List (List ℕ)) (v : Vocabulary) (scope : Scope) (effect : EffectForm) →
    effects_of types v scope effect ≡ through (with_effect types v scope) nothing_happens (single_effects effect)
unfolding effects_of
effects_start types v scope effect = refl

pub no_part : (types : List (List ℕ)) (v : Vocabulary) (scope : Scope) → effects_of types v scope (joint_effect no_effects) ≡ Some nothing_happens
unfolding effects_of single_effects through
no_part types v scope = refl

pub ruleset part_steps = (effects_start, no_part)
