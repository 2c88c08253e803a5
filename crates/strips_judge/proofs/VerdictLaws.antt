-- The verdict of the steps that are left, as a loop over the steps meets it.

use Rattle.std.proofs.Common.{◌≡◌, ℕ, ◌+◌, ◌<◌, ◌≤◌, List, Option, Some, None, Result, Ok, Err, IfOk, IfNone, subst, length, drop, slice_get, ap, sym, ◌∙◌}
use Rattle.std.proofs.lemmas.List.{drop_all}
use Rattle.std.proofs.lemmas.Option.{get_or_from_slice_get}
use Rattle.strips_task.specs.declared.steps.StepText.{StepText}
use Rattle.strips_task.specs.declared.tasks.TaskParts.{TaskParts}
use Rattle.strips_judge.specs.declared.verdict.Verdict.{Verdict}
use Rattle.strips_judge.specs.declared.verdict.Verdict.TheVariants.{Fails}
use Rattle.strips_judge.specs.declared.verdict.Why.{Why}
use Rattle.strips_judge.specs.State.{State}
use Rattle.strips_judge.specs.Step.{hindrance, after, missing}
use Rattle.strips_judge.specs.Verdict.{goal_verdict, step_verdict, verdict_from}
use Rattle.strips_judge.proofs.Searches.{left}

-- a fact about a success, by another
pub success_as : {T E : Type 0} (P Q : T → Type 0) (outcome : Result T E) → ((value : T) → P value → Q value) → IfOk outcome P → IfOk outcome Q
success_as P Q (Ok value) f p = f value p
success_as P Q (Err e) f p = tt

-- a fact about no value, where there is none
pub without_value : {T P : Type 0} (outcome : Option T) → outcome ≡ None → IfNone outcome P → P
without_value {T} {P} outcome none h = let Q : Option T → Type 0 = λ o. IfNone o P in subst Q none h

-- a fact that holds whether there is a value or not
pub if_none_known : {T E P : Type 0} (outcome : Result (Option T) E) → P → IfOk outcome (λ value. IfNone value P)
if_none_known (Ok None) p = p
if_none_known (Ok (Some value)) p = tt
if_none_known (Err e) p = tt

module _ (parts : TaskParts) (all : Verdict) (state : State) (steps : List StepText) (i : ℕ) (so_far : all ≡ verdict_from parts i state (drop i steps)) where
  -- one step more
  step_more : (step : StepText) → i < length steps → slice_get steps i ≡ Some step
      → all ≡ step_verdict (i + 1) (hindrance parts state step) (verdict_from parts (i + 1) (after parts state step) (drop (i + 1) steps))
  step_more step lt at = so_far ∙ ap (verdict_from parts i state) (left steps i step lt (sym (get_or_from_slice_get steps i step step at)))

  -- a step that is hindered ends the plan
  pub step_fails : (step : StepText) (why : Why) → i < length steps → slice_get steps i ≡ Some step → Some why ≡ hindrance parts state step → Fails (i + 1) why ≡ all
  step_fails step why lt at h =
      ap (λ w. step_verdict (i + 1) w (verdict_from parts (i + 1) (after parts state step) (drop (i + 1) steps))) h ∙ sym (step_more step lt at)

  -- a step that is not leads to the next state
  pub step_taken : (step : StepText) (next : State) → i < length steps → slice_get steps i ≡ Some step → None ≡ hindrance parts state step → next ≡ after parts state step
      → all ≡ verdict_from parts (i + 1) next (drop (i + 1) steps)
  step_taken step next lt at h is =
      step_more step lt at
      ∙ ap (λ w. step_verdict (i + 1) w (verdict_from parts (i + 1) (after parts state step) (drop (i + 1) steps))) (sym h)
      ∙ ap (λ s. verdict_from parts (i + 1) s (drop (i + 1) steps)) (sym is)

  -- after the last step the goal decides
  pub steps_end : length steps ≤ i → all ≡ goal_verdict i (missing parts state parts.goal)
  steps_end past = so_far ∙ ap (verdict_from parts i state) (drop_all i steps past)
