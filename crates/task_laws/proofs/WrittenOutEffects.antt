-- Effects with their quantifiers written out, and the task that is made of them.

use Rattle.std.proofs.Common.{◌≡◌, ℕ, Bool, List, [], ◌∷◌, ◌++◌, map, if◌then◌else◌, refl, ap, ◌∙◌}
use Rattle.std.proofs.Math.Path.{fun_ext}
use Rattle.std.proofs.lemmas.List.Folds.{flat_map-map}
use Rattle.std.specs.Bool.{beq}
use Rattle.std.specs.List.{flat_map}
use Rattle.formulas.specs.declared.atoms.Atom.{Atom}
use Rattle.formulas.specs.Changes.{changes, all_changes}
use Rattle.formulas.specs.EffectTree.{EffectTree, change, joint, conditional, universal, EffectParts, no_effects, effect_part, effect_parts_of}
use Rattle.strips_task.specs.declared.plans.Plan.{Plan}
use Rattle.strips_task.specs.declared.tasks.TaskParts.{TaskParts}
use Rattle.strips_judge.specs.State.{objects_of}
use Rattle.task_laws.specs.Laws.{QuantifiersMayBeWrittenOut, VerdictIsWrittenOut, NoQuantifierIsLeft}
use Rattle.task_laws.specs.WrittenOut.{effect_written_out, effects_written_out, formula_written_out, IsEffectQuantifierFree, AreEffectsQuantifierFree}
use Rattle.task_laws.proofs.Replaced.{KeepMeaning, verdict_kept, judged_alike}
use Rattle.task_laws.proofs.Terms.{atom_means}
use Rattle.task_laws.proofs.WrittenOut.{choices, tree_means, tree_grounded, no_quantifier}

-- none of the effects that a `forall` is written out as has a quantifier
none_in_choices : (f : List ℕ → EffectTree) → ((extended : List ℕ) → IsEffectQuantifierFree (f extended)) → (choices : List (List ℕ)) → AreEffectsQuantifierFree (effect_parts_of (map f choices))
none_in_choices f none [] = tt
none_in_choices f none (extended ∷ choices) = (none extended, none_in_choices f none choices)

module _ (objects_of : List ℕ → List ℕ) where
  -- an effect that is written out changes what it changed
  module _ (state : Atom → Bool) (arguments : List ℕ) (truth : Bool) where
    changes_joined : (effects : List EffectTree) → all_changes objects_of state arguments truth (effect_parts_of effects) [] ≡ flat_map (λ effect. changes objects_of state arguments truth effect []) effects
    changes_joined [] = refl
    changes_joined (effect ∷ effects) = ap (λ others. changes objects_of state arguments truth effect [] ++ others) (changes_joined effects)

    mutual
      pub effect_means : (effect : EffectTree) (bound : List ℕ)
          → changes objects_of state arguments truth (effect_written_out objects_of effect bound) [] ≡ changes objects_of state arguments truth effect bound
      effect_means (change positive pattern) bound = ap (λ changed. if beq positive truth then changed ∷ [] else []) (atom_means bound arguments pattern)
      effect_means (joint parts) bound = effects_mean parts bound
      effect_means (conditional condition effect) bound = λ j. if tree_means objects_of state arguments condition bound j then effect_means effect bound j else []
      effect_means (universal groups effect) bound =
          changes_joined (map (λ extended. effect_written_out objects_of effect extended) (choices objects_of groups bound))
          ∙ flat_map-map (λ other. changes objects_of state arguments truth other []) (λ extended. effect_written_out objects_of effect extended) (choices objects_of groups bound)
          ∙ ap (λ f. flat_map f (choices objects_of groups bound)) (fun_ext (effect_means effect))

      effects_mean : (parts : EffectParts) (bound : List ℕ)
          → all_changes objects_of state arguments truth (effects_written_out objects_of parts bound) [] ≡ all_changes objects_of state arguments truth parts bound
      effects_mean no_effects bound = refl
      effects_mean (effect_part effect parts) bound = λ j. effect_means effect bound j ++ effects_mean parts bound j

  mutual
    no_quantifier_in_effect : (effect : EffectTree) (bound : List ℕ) → IsEffectQuantifierFree (effect_written_out objects_of effect bound)
    no_quantifier_in_effect (change positive pattern) bound = tt
    no_quantifier_in_effect (joint parts) bound = no_quantifier_in_effects parts bound
    no_quantifier_in_effect (conditional condition effect) bound = (no_quantifier objects_of condition bound, no_quantifier_in_effect effect bound)
    no_quantifier_in_effect (universal groups effect) bound =
        none_in_choices (λ extended. effect_written_out objects_of effect extended) (no_quantifier_in_effect effect) (choices objects_of groups bound)

    no_quantifier_in_effects : (parts : EffectParts) (bound : List ℕ) → AreEffectsQuantifierFree (effects_written_out objects_of parts bound)
    no_quantifier_in_effects no_effects bound = tt
    no_quantifier_in_effects (effect_part effect parts) bound = (no_quantifier_in_effect effect bound, no_quantifier_in_effects parts bound)

pub no_quantifier_is_left : NoQuantifierIsLeft
no_quantifier_is_left objects_of bound = (λ tree. no_quantifier objects_of tree bound, λ effect. no_quantifier_in_effect objects_of effect bound)

module _ (parts : TaskParts) where
  meaning_kept : KeepMeaning parts (formula_written_out parts) (λ effect. effect_written_out (objects_of parts) effect [])
  meaning_kept = record {
    grounded = λ objects tree. tree_grounded (objects_of parts) objects tree [];
    held = λ state tree. tree_means (objects_of parts) state [] tree [];
    changed = λ state objects truth effect. effect_means (objects_of parts) state objects truth effect [];
  }

  pub quantifiers_may_be_written_out : (plan : Plan) → QuantifiersMayBeWrittenOut parts plan
  quantifiers_may_be_written_out = judged_alike parts (formula_written_out parts) (λ effect. effect_written_out (objects_of parts) effect []) meaning_kept

  pub verdict_is_written_out : (plan : Plan) → VerdictIsWrittenOut parts plan
  verdict_is_written_out = verdict_kept parts (formula_written_out parts) (λ effect. effect_written_out (objects_of parts) effect []) meaning_kept
