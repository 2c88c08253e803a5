-- `(imply a b)` written as `(or (not a) b)`.

use Rattle.std.specs.Prelude.{[], ◌∷◌}
use Rattle.formulas.specs.EffectTree.{EffectTree, change, joint, conditional, universal, EffectParts, no_effects, effect_part}
use Rattle.formulas.specs.Tree.{Tree, atom, equality, negation, conjunction, disjunction, implication, exists, for_all, Parts, no_parts, part, parts_of}
use Rattle.strips_task.specs.declared.tasks.TaskParts.{TaskParts}
use Rattle.task_laws.specs.Replaced.{task_with}

-- the formula with each `imply` in it written as an `or`
abbrev mutual
  pub without_imply : Tree → Tree
  without_imply (atom positive pattern) = atom positive pattern
  without_imply (equality positive left right) = equality positive left right
  without_imply (negation tree) = negation (without_imply tree)
  without_imply (conjunction parts) = conjunction (all_without_imply parts)
  without_imply (disjunction parts) = disjunction (all_without_imply parts)
  without_imply (implication premise conclusion) = disjunction (parts_of (negation (without_imply premise) ∷ without_imply conclusion ∷ []))
  without_imply (exists groups body) = exists groups (without_imply body)
  without_imply (for_all groups body) = for_all groups (without_imply body)

  -- the same for each of several formulas
  pub all_without_imply : Parts → Parts
  all_without_imply no_parts = no_parts
  all_without_imply (part tree parts) = part (without_imply tree) (all_without_imply parts)

-- the effect with each `imply` in its conditions written as an `or`
abbrev mutual
  pub effect_without_imply : EffectTree → EffectTree
  effect_without_imply (change positive pattern) = change positive pattern
  effect_without_imply (joint parts) = joint (effects_without_imply parts)
  effect_without_imply (conditional condition effect) = conditional (without_imply condition) (effect_without_imply effect)
  effect_without_imply (universal groups effect) = universal groups (effect_without_imply effect)

  -- the same for each of several effects
  pub effects_without_imply : EffectParts → EffectParts
  effects_without_imply no_effects = no_effects
  effects_without_imply (effect_part effect parts) = effect_part (effect_without_imply effect) (effects_without_imply parts)

-- the task with every `imply` written as an `or`: in the preconditions of its actions, the conditions of their effects, and its goal
abbrev pub task_without_imply : TaskParts → TaskParts
task_without_imply parts = task_with without_imply effect_without_imply parts

-- the formula has no `imply`
abbrev mutual
  pub IsImplyFree : Tree → Type 0
  IsImplyFree (atom positive pattern) = Unit {0}
  IsImplyFree (equality positive left right) = Unit {0}
  IsImplyFree (negation tree) = IsImplyFree tree
  IsImplyFree (conjunction parts) = AreImplyFree parts
  IsImplyFree (disjunction parts) = AreImplyFree parts
  IsImplyFree (implication premise conclusion) = ⊥
  IsImplyFree (exists groups body) = IsImplyFree body
  IsImplyFree (for_all groups body) = IsImplyFree body

  -- none of several formulas has one
  pub AreImplyFree : Parts → Type 0
  AreImplyFree no_parts = Unit {0}
  AreImplyFree (part tree parts) = IsImplyFree tree × AreImplyFree parts

-- no condition of the effect has an `imply`
abbrev mutual
  pub IsEffectImplyFree : EffectTree → Type 0
  IsEffectImplyFree (change positive pattern) = Unit {0}
  IsEffectImplyFree (joint parts) = AreEffectsImplyFree parts
  IsEffectImplyFree (conditional condition effect) = IsImplyFree condition × IsEffectImplyFree effect
  IsEffectImplyFree (universal groups effect) = IsEffectImplyFree effect

  -- no condition of several effects has one
  pub AreEffectsImplyFree : EffectParts → Type 0
  AreEffectsImplyFree no_effects = Unit {0}
  AreEffectsImplyFree (effect_part effect parts) = IsEffectImplyFree effect × AreEffectsImplyFree parts
