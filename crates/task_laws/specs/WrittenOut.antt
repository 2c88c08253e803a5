-- Quantifiers written out over the objects: `exists` as the `or` of its body for each choice of objects for its variables, `forall` as the `and`.

use Rattle.std.specs.Prelude.{ℕ, List, [], map}
use Rattle.formulas.specs.EffectTree.{EffectTree, change, joint, conditional, universal, EffectParts, no_effects, effect_part, effect_parts_of}
use Rattle.formulas.specs.Grounding.{term_with, pattern_with}
use Rattle.formulas.specs.Tree.{Tree, atom, equality, negation, conjunction, disjunction, implication, exists, for_all, Parts, no_parts, part, parts_of}
use Rattle.formulas.specs.Variables.{variable_types, extensions}
use Rattle.strips_task.specs.declared.tasks.TaskParts.{TaskParts}
use Rattle.strips_judge.specs.State.{objects_of}
use Rattle.task_laws.specs.Replaced.{task_with}

-- `objects_of types` are the objects that have one of these types
module _ (objects_of : List ℕ → List ℕ) where
  abbrev mutual
    -- the formula with its quantifiers written out, and with these objects for the variables bound around it. Parameters of the action stay
    pub written_out : Tree → List ℕ → Tree
    written_out (atom positive pattern) bound = atom positive (pattern_with [] bound pattern)
    written_out (equality positive left right) bound = equality positive (term_with [] bound left) (term_with [] bound right)
    written_out (negation tree) bound = negation (written_out tree bound)
    written_out (conjunction parts) bound = conjunction (all_written_out parts bound)
    written_out (disjunction parts) bound = disjunction (all_written_out parts bound)
    written_out (implication premise conclusion) bound = implication (written_out premise bound) (written_out conclusion bound)
    written_out (exists groups body) bound = disjunction (parts_of (map (λ extended. written_out body extended) (extensions objects_of (variable_types groups) bound)))
    written_out (for_all groups body) bound = conjunction (parts_of (map (λ extended. written_out body extended) (extensions objects_of (variable_types groups) bound)))

    -- the same for each of several formulas
    pub all_written_out : Parts → List ℕ → Parts
    all_written_out no_parts bound = no_parts
    all_written_out (part tree parts) bound = part (written_out tree bound) (all_written_out parts bound)

  abbrev mutual
    -- the effect with its quantifiers and those of its conditions written out: a `forall` as the `and` of its effect for each choice of objects
    pub effect_written_out : EffectTree → List ℕ → EffectTree
    effect_written_out (change positive pattern) bound = change positive (pattern_with [] bound pattern)
    effect_written_out (joint parts) bound = joint (effects_written_out parts bound)
    effect_written_out (conditional condition effect) bound = conditional (written_out condition bound) (effect_written_out effect bound)
    effect_written_out (universal groups effect) bound =
        joint (effect_parts_of (map (λ extended. effect_written_out effect extended) (extensions objects_of (variable_types groups) bound)))

    -- the same for each of several effects
    pub effects_written_out : EffectParts → List ℕ → EffectParts
    effects_written_out no_effects bound = no_effects
    effects_written_out (effect_part effect parts) bound = effect_part (effect_written_out effect bound) (effects_written_out parts bound)

-- a formula of the task with its quantifiers written out over the objects of the task
abbrev pub formula_written_out : TaskParts → Tree → Tree
formula_written_out parts tree = written_out (objects_of parts) tree []

-- the task with every quantifier written out: in the preconditions and the effects of its actions, and in its goal
abbrev pub task_written_out : TaskParts → TaskParts
task_written_out parts = task_with (formula_written_out parts) (λ effect. effect_written_out (objects_of parts) effect []) parts

-- the formula has no quantifier
abbrev mutual
  pub IsQuantifierFree : Tree → Type 0
  IsQuantifierFree (atom positive pattern) = Unit {0}
  IsQuantifierFree (equality positive left right) = Unit {0}
  IsQuantifierFree (negation tree) = IsQuantifierFree tree
  IsQuantifierFree (conjunction parts) = AreQuantifierFree parts
  IsQuantifierFree (disjunction parts) = AreQuantifierFree parts
  IsQuantifierFree (implication premise conclusion) = IsQuantifierFree premise × IsQuantifierFree conclusion
  IsQuantifierFree (exists groups body) = ⊥
  IsQuantifierFree (for_all groups body) = ⊥

  -- none of several formulas has one
  pub AreQuantifierFree : Parts → Type 0
  AreQuantifierFree no_parts = Unit {0}
  AreQuantifierFree (part tree parts) = IsQuantifierFree tree × AreQuantifierFree parts

-- the effect has no quantifier, nor have its conditions
abbrev mutual
  pub IsEffectQuantifierFree : EffectTree → Type 0
  IsEffectQuantifierFree (change positive pattern) = Unit {0}
  IsEffectQuantifierFree (joint parts) = AreEffectsQuantifierFree parts
  IsEffectQuantifierFree (conditional condition effect) = IsQuantifierFree condition × IsEffectQuantifierFree effect
  IsEffectQuantifierFree (universal groups effect) = ⊥

  -- none of several effects has one
  pub AreEffectsQuantifierFree : EffectParts → Type 0
  AreEffectsQuantifierFree no_effects = Unit {0}
  AreEffectsQuantifierFree (effect_part effect parts) = IsEffectQuantifierFree effect × AreEffectsQuantifierFree parts
