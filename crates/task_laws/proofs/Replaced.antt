-- If the formulas and effects of a task are replaced by others that mean the same, the verdict of each plan is the same up to the conditions that it lists.

use Rattle.std.proofs.Common.{◌≡◌, ℕ, ◌+◌, Bool, true, false, not, List, [], ◌∷◌, ◌++◌, Option, Some, None, filter, map, slice_get, option_map, option_and_then, if◌then◌else◌, ◌==◌, length, refl, ap, sym, ◌∙◌}
use Rattle.std.proofs.Math.Path.{fun_ext}
use Rattle.std.proofs.lemmas.List.Folds.{flat_map-map}
use Rattle.std.proofs.lemmas.Map.Made.{keys_of-map_values}
use Rattle.std.proofs.lemmas.Option.{slice_get-map}
use Rattle.std.specs.List.{flat_map, position_from}
use Rattle.std.specs.Map.{values_of}
use Rattle.std.specs.Option.{option_or}
use Rattle.std.specs.Str.{bytes_eq}
use Rattle.formulas.specs.Changes.{changes}
use Rattle.formulas.specs.EffectTree.{EffectTree}
use Rattle.formulas.specs.Equality.{tree_eq}
use Rattle.formulas.specs.EqualityLaws.{tree_decides}
use Rattle.formulas.specs.Grounding.{with_objects}
use Rattle.formulas.specs.Tree.{Tree}
use Rattle.strips_task.specs.declared.actions.Action.{Action}
use Rattle.strips_task.specs.declared.plans.Plan.{Plan}
use Rattle.strips_task.specs.declared.plans.Plan.TheVariants.{Steps, Unreadable}
use Rattle.strips_task.specs.declared.steps.StepText.{StepText}
use Rattle.strips_task.specs.declared.tasks.TaskParts.{TaskParts}
use Rattle.strips_task.specs.FirstOccurrences.{first_occurrences}
use Rattle.strips_task.specs.Names.{number_named}
use Rattle.strips_judge.specs.declared.verdict.Verdict.{Verdict}
use Rattle.strips_judge.specs.declared.verdict.Why.{Why}
use Rattle.strips_judge.specs.declared.verdict.Why.TheVariants.{WrongCount, UnknownObject, WrongType}
use Rattle.strips_judge.specs.Grounding.{ground}
use Rattle.strips_judge.specs.State.{State, is_in, holds, objects_of, after_effects}
use Rattle.strips_judge.specs.Step.{action_named, objects_named, first_unknown, first_ill_typed, fault_by, conditions_by, changed_by, after_by, after, missing, missing_why, hindrance}
use Rattle.strips_judge.specs.Verdict.{goal_verdict, step_verdict, verdict_from, verdict}
use Rattle.task_laws.specs.Alike.{IsJudgedAlike}
use Rattle.task_laws.specs.Replaced.{action_with, task_with, unmet_with, why_with, verdict_with}
use Rattle.task_laws.proofs.Alike.{alike_by_verdicts}
use Rattle.task_laws.proofs.ListLemmas.{values_of-map, filter-map, first_occurrences-map}

-- formulas and effects that are replaced mean the same in every state, and objects may be put in before or after
pub record KeepMeaning (parts : TaskParts) (formula : Tree → Tree) (effect : EffectTree → EffectTree) : Type 0 where
  pub grounded : (objects : List ℕ) (tree : Tree) → with_objects objects [] (formula tree) ≡ formula (with_objects objects [] tree)
  pub held : (state : State) (tree : Tree) → holds parts state [] (formula tree) ≡ holds parts state [] tree
  pub changed : (state : State) (objects : List ℕ) (truth : Bool) (tree : EffectTree)
      → changes (objects_of parts) state objects truth (effect tree) [] ≡ changes (objects_of parts) state objects truth tree []

-- of a verdict whose conditions are replaced, the rest is as it was
module _ (formula : Tree → Tree) where
  goal_with : (steps : ℕ) (unmet : List Tree) → goal_verdict steps (unmet_with formula unmet) ≡ verdict_with formula (goal_verdict steps unmet)
  unfolding first_occurrences
  goal_with steps [] = refl
  goal_with steps (condition ∷ conditions) = refl

  step_with : (step : ℕ) (why : Option Why) (rest : Verdict) → step_verdict step (option_map (why_with formula) why) (verdict_with formula rest) ≡ verdict_with formula (step_verdict step why rest)
  step_with step (Some why) rest = refl
  step_with step None rest = refl

  hindrance_with : (fault : Option Why) (unmet : List Tree)
      → option_or (option_map (why_with formula) fault) (missing_why (unmet_with formula unmet)) ≡ option_map (why_with formula) (option_or fault (missing_why unmet))
  unfolding first_occurrences
  hindrance_with (Some why) unmet = refl
  hindrance_with None [] = refl
  hindrance_with None (condition ∷ conditions) = refl

module _ (parts : TaskParts) (formula : Tree → Tree) (effect : EffectTree → EffectTree) (kept : KeepMeaning parts formula effect) where
  abbrev replaced : TaskParts
  replaced = task_with formula effect parts

  missing_kept : (state : State) (conditions : List Tree) → missing replaced state (map formula conditions) ≡ unmet_with formula (missing parts state conditions)
  missing_kept state conditions =
      ap (first_occurrences tree_eq) (filter-map fails fails formula (λ condition. ap not (kept.held state condition)) conditions)
      ∙ sym (first_occurrences-map tree_eq tree_decides formula (filter fails conditions))
    where
      fails : Tree → Bool
      fails condition = not (holds parts state [] condition)

  number_kept : (word : List ℕ) → number_named replaced.actions word ≡ number_named parts.actions word
  unfolding number_named
  number_kept word = ap (position_from (bytes_eq word) 0) (keys_of-map_values (action_with formula effect) parts.actions)

  action_kept : (word : List ℕ) → action_named replaced word ≡ option_map (action_with formula effect) (action_named parts word)
  action_kept word = ap (option_and_then (slice_get (values_of replaced.actions))) (number_kept word) ∙ by (number_named parts.actions word)
    where
      by : (number : Option ℕ) → option_and_then (slice_get (values_of replaced.actions)) number ≡ option_map (action_with formula effect) (option_and_then (slice_get (values_of parts.actions)) number)
      by None = refl
      by (Some number) =
          ap (λ actions. slice_get actions number) (values_of-map (action_with formula effect) parts.actions) ∙ slice_get-map (action_with formula effect) (values_of parts.actions) number

  fault_kept : (found : Option Action) (args : List (List ℕ)) → fault_by replaced (option_map (action_with formula effect) found) args ≡ option_map (why_with formula) (fault_by parts found args)
  fault_kept None args = refl
  fault_kept (Some action) args = by (length args == length action.params) (first_unknown parts args) (first_ill_typed parts action args)
    where
      by : (fitting : Bool) (unknown ill_typed : Option ℕ)
          → (if fitting then option_or (option_map UnknownObject unknown) (option_map WrongType ill_typed) else Some WrongCount)
          ≡ option_map (why_with formula) (if fitting then option_or (option_map UnknownObject unknown) (option_map WrongType ill_typed) else Some WrongCount)
      by false unknown ill_typed = refl
      by true (Some arg) ill_typed = refl
      by true None (Some arg) = refl
      by true None None = refl

  conditions_kept : (objects : List ℕ) (found : Option Action) → conditions_by objects (option_map (action_with formula effect) found) ≡ map formula (conditions_by objects found)
  conditions_kept objects None = refl
  conditions_kept objects (Some action) = by action.pre
    where
      by : (conditions : List Tree) → map (with_objects objects []) (map formula conditions) ≡ map formula (map (with_objects objects []) conditions)
      by [] = refl
      by (condition ∷ conditions) = λ j. kept.grounded objects condition j ∷ by conditions j

  hindrance_kept : (state : State) (step : StepText) → hindrance replaced state step ≡ option_map (why_with formula) (hindrance parts state step)
  hindrance_kept state step =
      (λ j. option_or (fault_by replaced (action_kept step.action j) step.args) (missing_why (missing replaced state (conditions_by objects (action_kept step.action j)))))
      ∙ (λ j. option_or (fault_kept found step.args j) (missing_why (lacking j)))
      ∙ hindrance_with formula (fault_by parts found step.args) (missing parts state (conditions_by objects found))
    where
      objects : List ℕ
      objects = objects_named parts step.args

      found : Option Action
      found = action_named parts step.action

      lacking : missing replaced state (conditions_by objects (option_map (action_with formula effect) found)) ≡ unmet_with formula (missing parts state (conditions_by objects found))
      lacking = ap (missing replaced state) (conditions_kept objects found) ∙ missing_kept state (conditions_by objects found)

  changed_kept : (objects : List ℕ) (state : State) (truth : Bool) (effects : List EffectTree) → changed_by replaced objects state truth (map effect effects) ≡ changed_by parts objects state truth effects
  changed_kept objects state truth effects =
      flat_map-map (λ tree. changes (objects_of parts) state objects truth tree []) effect effects
      ∙ ap (λ f. flat_map f effects) (fun_ext (kept.changed state objects truth))

  after_kept : (state : State) (step : StepText) → after replaced state step ≡ after parts state step
  after_kept state step = ap (after_by replaced objects state) (action_kept step.action) ∙ by (action_named parts step.action)
    where
      objects : List ℕ
      objects = objects_named parts step.args

      by : (found : Option Action) → after_by replaced objects state (option_map (action_with formula effect) found) ≡ after_by parts objects state found
      by None = refl
      by (Some action) =
          λ j. after_effects state (map (ground objects) action.del ++ changed_kept objects state false action.effects j) (map (ground objects) action.add ++ changed_kept objects state true action.effects j)

  verdict_kept_from : (taken : ℕ) (state : State) (steps : List StepText) → verdict_from replaced taken state steps ≡ verdict_with formula (verdict_from parts taken state steps)
  verdict_kept_from taken state [] = ap (goal_verdict taken) (missing_kept state parts.goal) ∙ goal_with formula taken (missing parts state parts.goal)
  verdict_kept_from taken state (step ∷ steps) =
      (λ j. step_verdict (taken + 1) (hindrance_kept state step j) (verdict_from replaced (taken + 1) (after_kept state step j) steps))
      ∙ ap (step_verdict (taken + 1) (option_map (why_with formula) (hindrance parts state step))) (verdict_kept_from (taken + 1) (after parts state step) steps)
      ∙ step_with formula (taken + 1) (hindrance parts state step) (verdict_from parts (taken + 1) (after parts state step) steps)

  pub verdict_kept : (plan : Plan) → verdict replaced plan ≡ verdict_with formula (verdict parts plan)
  verdict_kept (Steps steps) = verdict_kept_from 0 (is_in parts.init) steps
  verdict_kept (Unreadable line) = refl

  pub judged_alike : (plan : Plan) → IsJudgedAlike replaced parts plan
  judged_alike plan = alike_by_verdicts formula replaced parts plan (verdict_kept plan)
