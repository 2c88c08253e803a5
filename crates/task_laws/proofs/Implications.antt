-- Formulas and effects with each `imply` written as an `or`.

use Rattle.std.proofs.Common.{◌≡◌, ℕ, Bool, not, ◌&&◌, ◌||◌, List, [], ◌∷◌, ◌++◌, if◌then◌else◌, refl, ap, sym, ◌∙◌}
use Rattle.std.proofs.Math.Path.{fun_ext}
use Rattle.std.specs.List.{flat_map, list_all, list_any}
use Rattle.formulas.specs.declared.atoms.Atom.{Atom}
use Rattle.formulas.specs.Changes.{changes, all_changes}
use Rattle.formulas.specs.EffectTree.{EffectTree, change, joint, conditional, universal, EffectParts, no_effects, effect_part}
use Rattle.formulas.specs.Grounding.{with_objects, all_with_objects}
use Rattle.formulas.specs.Meaning.{holds, all_hold, some_holds}
use Rattle.formulas.specs.Tree.{Tree, atom, equality, negation, conjunction, disjunction, implication, exists, for_all, Parts, no_parts, part, parts_of}
use Rattle.formulas.specs.Variables.{variable_types, extensions}
use Rattle.formulas.proofs.Connectives.{imply_means}
use Rattle.strips_task.specs.declared.plans.Plan.{Plan}
use Rattle.strips_task.specs.declared.tasks.TaskParts.{TaskParts}
use Rattle.strips_judge.specs.State.{objects_of}
use Rattle.task_laws.specs.Implications.{without_imply, all_without_imply, effect_without_imply, effects_without_imply, IsImplyFree, AreImplyFree, IsEffectImplyFree, AreEffectsImplyFree}
use Rattle.task_laws.specs.Laws.{ImplyMayBeWrittenAsOr, VerdictIsWithoutImply, NoImplyIsLeft}
use Rattle.task_laws.proofs.Replaced.{KeepMeaning, verdict_kept, judged_alike}

module _ (objects : List ℕ) where
  mutual
    tree_grounded : (tree : Tree) → with_objects objects [] (without_imply tree) ≡ without_imply (with_objects objects [] tree)
    tree_grounded (atom positive pattern) = refl
    tree_grounded (equality positive left right) = refl
    tree_grounded (negation tree) = ap negation (tree_grounded tree)
    tree_grounded (conjunction parts) = ap conjunction (parts_grounded parts)
    tree_grounded (disjunction parts) = ap disjunction (parts_grounded parts)
    tree_grounded (implication premise conclusion) = λ j. disjunction (parts_of (negation (tree_grounded premise j) ∷ tree_grounded conclusion j ∷ []))
    tree_grounded (exists groups body) = ap (exists groups) (tree_grounded body)
    tree_grounded (for_all groups body) = ap (for_all groups) (tree_grounded body)

    parts_grounded : (parts : Parts) → all_with_objects objects [] (all_without_imply parts) ≡ all_without_imply (all_with_objects objects [] parts)
    parts_grounded no_parts = refl
    parts_grounded (part tree parts) = λ j. part (tree_grounded tree j) (parts_grounded parts j)

module _ (objects_of : List ℕ → List ℕ) (state : Atom → Bool) (arguments : List ℕ) where
  abbrev is : Tree → List ℕ → Bool
  is = holds objects_of state arguments

  mutual
    tree_means : (tree : Tree) (bound : List ℕ) → is (without_imply tree) bound ≡ is tree bound
    tree_means (atom positive pattern) bound = refl
    tree_means (equality positive left right) bound = refl
    tree_means (negation tree) bound = ap not (tree_means tree bound)
    tree_means (conjunction parts) bound = all_mean parts bound
    tree_means (disjunction parts) bound = some_mean parts bound
    tree_means (implication premise conclusion) bound =
        sym (imply_means objects_of state arguments bound (without_imply premise) (without_imply conclusion)) ∙ (λ j. not (tree_means premise bound j) || tree_means conclusion bound j)
    tree_means (exists groups body) bound = ap (λ f. list_any f (extensions objects_of (variable_types groups) bound)) (fun_ext (tree_means body))
    tree_means (for_all groups body) bound = ap (λ f. list_all f (extensions objects_of (variable_types groups) bound)) (fun_ext (tree_means body))

    all_mean : (parts : Parts) (bound : List ℕ) → all_hold objects_of state arguments (all_without_imply parts) bound ≡ all_hold objects_of state arguments parts bound
    all_mean no_parts bound = refl
    all_mean (part tree parts) bound = λ j. tree_means tree bound j && all_mean parts bound j

    some_mean : (parts : Parts) (bound : List ℕ) → some_holds objects_of state arguments (all_without_imply parts) bound ≡ some_holds objects_of state arguments parts bound
    some_mean no_parts bound = refl
    some_mean (part tree parts) bound = λ j. tree_means tree bound j || some_mean parts bound j

  module _ (truth : Bool) where
    mutual
      effect_means : (effect : EffectTree) (bound : List ℕ) → changes objects_of state arguments truth (effect_without_imply effect) bound ≡ changes objects_of state arguments truth effect bound
      effect_means (change positive pattern) bound = refl
      effect_means (joint parts) bound = effects_mean parts bound
      effect_means (conditional condition effect) bound = λ j. if tree_means condition bound j then effect_means effect bound j else []
      effect_means (universal groups effect) bound = ap (λ f. flat_map f (extensions objects_of (variable_types groups) bound)) (fun_ext (effect_means effect))

      effects_mean : (parts : EffectParts) (bound : List ℕ) → all_changes objects_of state arguments truth (effects_without_imply parts) bound ≡ all_changes objects_of state arguments truth parts bound
      effects_mean no_effects bound = refl
      effects_mean (effect_part effect parts) bound = λ j. effect_means effect bound j ++ effects_mean parts bound j

mutual
  no_imply : (tree : Tree) → IsImplyFree (without_imply tree)
  no_imply (atom positive pattern) = tt
  no_imply (equality positive left right) = tt
  no_imply (negation tree) = no_imply tree
  no_imply (conjunction parts) = no_imply_in parts
  no_imply (disjunction parts) = no_imply_in parts
  no_imply (implication premise conclusion) = (no_imply premise, (no_imply conclusion, tt))
  no_imply (exists groups body) = no_imply body
  no_imply (for_all groups body) = no_imply body

  no_imply_in : (parts : Parts) → AreImplyFree (all_without_imply parts)
  no_imply_in no_parts = tt
  no_imply_in (part tree parts) = (no_imply tree, no_imply_in parts)

mutual
  no_imply_in_effect : (effect : EffectTree) → IsEffectImplyFree (effect_without_imply effect)
  no_imply_in_effect (change positive pattern) = tt
  no_imply_in_effect (joint parts) = no_imply_in_effects parts
  no_imply_in_effect (conditional condition effect) = (no_imply condition, no_imply_in_effect effect)
  no_imply_in_effect (universal groups effect) = no_imply_in_effect effect

  no_imply_in_effects : (parts : EffectParts) → AreEffectsImplyFree (effects_without_imply parts)
  no_imply_in_effects no_effects = tt
  no_imply_in_effects (effect_part effect parts) = (no_imply_in_effect effect, no_imply_in_effects parts)

pub no_imply_is_left : NoImplyIsLeft
no_imply_is_left = (no_imply, no_imply_in_effect)

module _ (parts : TaskParts) where
  meaning_kept : KeepMeaning parts without_imply effect_without_imply
  meaning_kept = record {
    grounded = tree_grounded;
    held = λ state tree. tree_means (objects_of parts) state [] tree [];
    changed = λ state objects truth effect. effect_means (objects_of parts) state objects truth effect [];
  }

  pub imply_may_be_written_as_or : (plan : Plan) → ImplyMayBeWrittenAsOr parts plan
  imply_may_be_written_as_or = judged_alike parts without_imply effect_without_imply meaning_kept

  pub verdict_is_without_imply : (plan : Plan) → VerdictIsWithoutImply parts plan
  verdict_is_without_imply = verdict_kept parts without_imply effect_without_imply meaning_kept
