-- What the effects of actions stand for.

use Rattle.std.specs.Prelude.{ℕ, Bool, true, false, List, [], ◌∷◌, ◌++◌, Option, Some, None}
use Rattle.std.specs.Option.{option_map}
use Rattle.formulas.specs.declared.terms.Pattern.{Pattern}
use Rattle.formulas.specs.EffectTree.{EffectTree, change, joint, conditional, universal, effect_parts_of}
use Rattle.formulas.specs.Tree.{Tree}
use Rattle.strips_task.specs.declared.amounts.Amount.{Amount}
use Rattle.pddl_syntax.specs.Optional.{followed_by, through}
use Rattle.pddl_syntax.specs.Syntax.{EffectForm, atom_effect, increase_effect, joint_effect, conditional_effect, universal_effect, EffectForms, no_effects, effect_then}
use Rattle.pddl_reader.specs.declared.resolution.effects.Effects.{Effects}
use Rattle.pddl_reader.specs.Conditions.{tree_meant}
use Rattle.pddl_reader.specs.Declarations.{Known, pattern_of}
use Rattle.pddl_reader.specs.Functions.{Vocabulary, with_increase}
use Rattle.pddl_reader.specs.Scopes.{Scope, bound_by, quantified}

-- an effect that depends on a condition, if both are known
unfoldable pub conditional_by : Option Tree → Option EffectTree → Option EffectTree
conditional_by None effect = None
conditional_by (Some condition) effect = option_map (conditional condition) effect

module _ (types : List (List ℕ)) (known : Known) where
  unfoldable mutual
    -- the effect that syntax under `when` or `forall` stands for in a scope
    pub effect_meant : Scope → EffectForm → Option EffectTree
    effect_meant scope (atom_effect positive atom) = option_map (change positive) (pattern_of known scope atom)
    effect_meant scope (increase_effect amount) = None
    effect_meant scope (joint_effect effects) = option_map (λ meant. joint (effect_parts_of meant)) (effects_meant scope effects)
    effect_meant scope (conditional_effect condition effect) = conditional_by (tree_meant types known scope condition) (effect_meant scope effect)
    effect_meant scope (universal_effect groups effect) =
        option_map (λ binding. universal binding.0 binding.1) (quantified scope (bound_by types groups) (λ inner. effect_meant inner effect))

    -- the effects that several stand for
    pub effects_meant : Scope → EffectForms → Option (List EffectTree)
    effects_meant scope no_effects = Some []
    effects_meant scope (effect_then effect effects) = followed_by (effect_meant scope effect) (effects_meant scope effects)

-- the effects under `and`, through any depth of `and` in `and`
unfoldable mutual
  pub single_effects : EffectForm → List EffectForm
  single_effects (joint_effect effects) = all_single_effects effects
  single_effects effect = effect ∷ []

  -- the same for several effects
  pub all_single_effects : EffectForms → List EffectForm
  all_single_effects no_effects = []
  all_single_effects (effect_then effect effects) = single_effects effect ++ all_single_effects effects

-- no effects
abbrev pub nothing_happens : Effects
nothing_happens = record { add = []; del = []; inner = []; increases = [] }

-- the effects with one more pattern, which is added (`true`) or deleted
unfoldable pub changed : Effects → Bool → Pattern → Effects
changed effects true pattern = record effects { add = effects.add ++ pattern ∷ [] }
changed effects false pattern = record effects { del = effects.del ++ pattern ∷ [] }

-- the effects with one more pattern, if there is one
unfoldable pub with_change : Effects → Bool → Option Pattern → Option Effects
with_change effects positive None = None
with_change effects positive (Some pattern) = Some (changed effects positive pattern)

-- the effects with these increases
abbrev pub increased : Effects → List Amount → Effects
increased effects increases = record effects { increases = increases }

-- the effects with one more under `when` or `forall`
abbrev pub joined : Effects → EffectTree → Effects
joined effects effect = record effects { inner = effects.inner ++ effect ∷ [] }

-- the effects with one more: an atom is added, a negated one is deleted, an increase joins the other increases, and an effect under `when` or `forall` the
-- others of these
unfoldable pub with_effect : List (List ℕ) → Vocabulary → Scope → Effects → EffectForm → Option Effects
with_effect types vocabulary scope effects (atom_effect positive atom) = with_change effects positive (pattern_of vocabulary.atoms scope atom)
with_effect types vocabulary scope effects (increase_effect amount) =
    option_map (increased effects) (with_increase vocabulary scope effects.increases amount)
with_effect types vocabulary scope effects effect = option_map (joined effects) (effect_meant types vocabulary.atoms scope effect)

-- the effects that syntax stands for, in text order
unfoldable pub effects_of : List (List ℕ) → Vocabulary → Scope → EffectForm → Option Effects
effects_of types vocabulary scope effect = through (with_effect types vocabulary scope) nothing_happens (single_effects effect)
