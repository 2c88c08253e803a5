-- The verdict says what the runs of a plan say.

use Rattle.std.proofs.Common.{◌≡◌, ℕ, ◌+◌, zero, suc, List, [], ◌∷◌, Option, Some, None, length, slice_get, take, refl, ap, sym, ◌∙◌, subst, arith}
use Rattle.strips_task.specs.declared.plans.Plan.{Plan}
use Rattle.strips_task.specs.declared.plans.Plan.TheVariants.{Steps, Unreadable}
use Rattle.strips_task.specs.declared.steps.StepText.{StepText}
use Rattle.strips_task.specs.declared.tasks.TaskParts.{TaskParts}
use Rattle.formulas.specs.Tree.{Tree}
use Rattle.strips_judge.specs.declared.verdict.Verdict.TheVariants as answer
use Rattle.strips_judge.specs.declared.verdict.Why.{Why}
use Rattle.strips_judge.specs.State.{State, is_in}
use Rattle.strips_judge.specs.Step.{hindrance, after, missing}
use Rattle.strips_judge.specs.Verdict.{goal_verdict, step_verdict, verdict_from}
use Rattle.strips_judge.specs.Validity.{Satisfies, IsApplicable, LeadTo}
use Rattle.strips_judge.specs.Laws.{ValidMeansValid, FailsMeansFirstFailure, GoalMeansGoalMissed}
use Rattle.strips_judge.proofs.Applicable.{satisfied_from_missing, missing_from_satisfied, applicable_from_hindrance, hindrance_from_applicable}
use Rattle.strips_judge.proofs.Runs.{lead_none, lead_none_same, lead_more, lead_first}

module _ (parts : TaskParts) where
  -- the verdict of a step and others, by what hinders the step
  pub verdict_split : (n : ℕ) (state : State) (step : StepText) (steps : List StepText) (o : Option Why) → hindrance parts state step ≡ o
      → verdict_from parts n state (step ∷ steps) ≡ step_verdict (n + 1) o (verdict_from parts (n + 1) (after parts state step) steps)
  verdict_split n state step steps o e = ap (λ w. step_verdict (n + 1) w (verdict_from parts (n + 1) (after parts state step) steps)) e

  valid_from_verdict : (n : ℕ) (state : State) (steps : List StepText) (m : ℕ) → verdict_from parts n state steps ≡ answer.Valid m
      → (end : State) × LeadTo parts state steps end × Satisfies parts end parts.goal × (n + length steps ≡ m)
  valid_from_verdict n state [] m e = by (missing parts state parts.goal) refl
    where
      by : (unmet : List Tree) → missing parts state parts.goal ≡ unmet → (end : State) × LeadTo parts state [] end × Satisfies parts end parts.goal × (n + 0 ≡ m)
      by [] f =
          let same : answer.Valid n ≡ answer.Valid m = sym (ap (goal_verdict n) f) ∙ e in
          let count : n ≡ m = cc in
          (state, lead_none parts state, satisfied_from_missing parts state parts.goal f, omega arith)
      by (condition ∷ conds) f = let apart : answer.Goal (condition ∷ conds) ≡ answer.Valid m = sym (ap (goal_verdict n) f) ∙ e in cc
  valid_from_verdict n state (step ∷ steps) m e = by (hindrance parts state step) refl (valid_from_verdict (n + 1) (after parts state step) steps m)
    where
      by : (o : Option Why) → hindrance parts state step ≡ o
          → (verdict_from parts (n + 1) (after parts state step) steps ≡ answer.Valid m
          → (end : State) × LeadTo parts (after parts state step) steps end × Satisfies parts end parts.goal × (n + 1 + length steps ≡ m))
          → (end : State) × LeadTo parts state (step ∷ steps) end × Satisfies parts end parts.goal × (n + length (step ∷ steps) ≡ m)
      by (Some why) f rest = let apart : answer.Fails (n + 1) why ≡ answer.Valid m = sym (verdict_split n state step steps (Some why) f) ∙ e in cc
      by None f rest =
          let (end, leads, holds, count) = rest (sym (verdict_split n state step steps None f) ∙ e) in
          (end, lead_more parts state end step steps (applicable_from_hindrance parts state step f) leads, holds, omega arith)

  verdict_from_valid : (n : ℕ) (state end : State) (steps : List StepText) → LeadTo parts state steps end → Satisfies parts end parts.goal
      → verdict_from parts n state steps ≡ answer.Valid (n + length steps)
  verdict_from_valid n state end [] leads holds =
      ap (goal_verdict n) (ap (λ s. missing parts s parts.goal) (lead_none_same parts state end leads) ∙ missing_from_satisfied parts end parts.goal holds)
      ∙ ap answer.Valid (let e : n ≡ n + 0 = omega arith in e)
  verdict_from_valid n state end (step ∷ steps) leads holds =
      let (can, rest) = lead_first parts state end step steps leads in
      verdict_split n state step steps None (hindrance_from_applicable parts state step can)
      ∙ verdict_from_valid (n + 1) (after parts state step) end steps rest holds
      ∙ ap answer.Valid (let e : n + 1 + length steps ≡ n + suc (length steps) = omega arith in e)

  -- a step that is hindered is not applicable
  not_applicable : (state : State) (step : StepText) (why : Why) → hindrance parts state step ≡ Some why → IsApplicable parts state step → ⊥
  not_applicable state step why e can = let apart : Some why ≡ None = sym e ∙ hindrance_from_applicable parts state step can in cc

  fails_from_verdict : (n : ℕ) (state : State) (steps : List StepText) (i : ℕ) (why : Why) → verdict_from parts n state steps ≡ answer.Fails i why
      → (before : ℕ) × (step : StepText) × (at : State) × (i ≡ n + before + 1) × (slice_get steps before ≡ Some step)
      × LeadTo parts state (take before steps) at × (IsApplicable parts at step → ⊥)
  fails_from_verdict n state [] i why e = by (missing parts state parts.goal) refl
    where
      by : (unmet : List Tree) → missing parts state parts.goal ≡ unmet
          → (before : ℕ) × (step : StepText) × (at : State) × (i ≡ n + before + 1) × (slice_get [] before ≡ Some step)
          × LeadTo parts state (take before []) at × (IsApplicable parts at step → ⊥)
      by [] f = let apart : answer.Valid n ≡ answer.Fails i why = sym (ap (goal_verdict n) f) ∙ e in cc
      by (condition ∷ conds) f = let apart : answer.Goal (condition ∷ conds) ≡ answer.Fails i why = sym (ap (goal_verdict n) f) ∙ e in cc
  fails_from_verdict n state (first ∷ steps) i why e = by (hindrance parts state first) refl (fails_from_verdict (n + 1) (after parts state first) steps i why)
    where
      by : (o : Option Why) → hindrance parts state first ≡ o
          → (verdict_from parts (n + 1) (after parts state first) steps ≡ answer.Fails i why
          → (before : ℕ) × (step : StepText) × (at : State) × (i ≡ n + 1 + before + 1) × (slice_get steps before ≡ Some step)
          × LeadTo parts (after parts state first) (take before steps) at × (IsApplicable parts at step → ⊥))
          → (before : ℕ) × (step : StepText) × (at : State) × (i ≡ n + before + 1) × (slice_get (first ∷ steps) before ≡ Some step)
          × LeadTo parts state (take before (first ∷ steps)) at × (IsApplicable parts at step → ⊥)
      by (Some hindered) f rest =
          let same : answer.Fails (n + 1) hindered ≡ answer.Fails i why = sym (verdict_split n state first steps (Some hindered) f) ∙ e in
          let index : n + 1 ≡ i = cc in
          (0, first, state, omega arith, refl, lead_none parts state, not_applicable state first hindered f)
      by None f rest =
          let (before, step, at, index, of, leads, cannot) = rest (sym (verdict_split n state first steps None f) ∙ e) in
          (suc before, step, at, omega arith, of, lead_more parts state at first (take before steps) (applicable_from_hindrance parts state first f) leads, cannot)

  verdict_from_fails : (n : ℕ) (state at : State) (steps : List StepText) (before : ℕ) (step : StepText) → slice_get steps before ≡ Some step
      → LeadTo parts state (take before steps) at → (IsApplicable parts at step → ⊥)
      → (why : Why) × (verdict_from parts n state steps ≡ answer.Fails (n + before + 1) why)
  verdict_from_fails n state at [] before step of leads cannot = cc
  verdict_from_fails n state at (first ∷ steps) zero step of leads cannot = by (hindrance parts state first) refl
    where
      here : first ≡ step
      here = cc

      by : (o : Option Why) → hindrance parts state first ≡ o → (why : Why) × (verdict_from parts n state (first ∷ steps) ≡ answer.Fails (n + 0 + 1) why)
      by (Some why) f = (why, verdict_split n state first steps (Some why) f ∙ ap (λ k. answer.Fails k why) (let e : n + 1 ≡ n + 0 + 1 = omega arith in e))
      by None f =
          absurd (cannot (subst (λ (x : StepText). IsApplicable parts at x) here
          (subst (λ (s : State). IsApplicable parts s first) (lead_none_same parts state at leads) (applicable_from_hindrance parts state first f))))
  verdict_from_fails n state at (first ∷ steps) (suc before) step of leads cannot =
      let (can, rest) = lead_first parts state at first (take before steps) leads in
      let (why, e) = verdict_from_fails (n + 1) (after parts state first) at steps before step of rest cannot in (
        why,
        verdict_split n state first steps None (hindrance_from_applicable parts state first can) ∙ e
            ∙ ap (λ k. answer.Fails k why) (let index : n + 1 + before + 1 ≡ n + suc before + 1 = omega arith in index),
      )

  goal_from_verdict : (n : ℕ) (state : State) (steps : List StepText) (unmet : List Tree) → verdict_from parts n state steps ≡ answer.Goal unmet
      → (end : State) × LeadTo parts state steps end × (Satisfies parts end parts.goal → ⊥)
  goal_from_verdict n state [] unmet e = by (missing parts state parts.goal) refl
    where
      by : (found : List Tree) → missing parts state parts.goal ≡ found → (end : State) × LeadTo parts state [] end × (Satisfies parts end parts.goal → ⊥)
      by [] f = let apart : answer.Valid n ≡ answer.Goal unmet = sym (ap (goal_verdict n) f) ∙ e in cc
      by (condition ∷ conds) f =
          (state, lead_none parts state, λ holds. let apart : condition ∷ conds ≡ [] = sym f ∙ missing_from_satisfied parts state parts.goal holds in cc)
  goal_from_verdict n state (step ∷ steps) unmet e = by (hindrance parts state step) refl (goal_from_verdict (n + 1) (after parts state step) steps unmet)
    where
      by : (o : Option Why) → hindrance parts state step ≡ o
          → (verdict_from parts (n + 1) (after parts state step) steps ≡ answer.Goal unmet
          → (end : State) × LeadTo parts (after parts state step) steps end × (Satisfies parts end parts.goal → ⊥))
          → (end : State) × LeadTo parts state (step ∷ steps) end × (Satisfies parts end parts.goal → ⊥)
      by (Some why) f rest = let apart : answer.Fails (n + 1) why ≡ answer.Goal unmet = sym (verdict_split n state step steps (Some why) f) ∙ e in cc
      by None f rest =
          let (end, leads, lacks) = rest (sym (verdict_split n state step steps None f) ∙ e) in
          (end, lead_more parts state end step steps (applicable_from_hindrance parts state step f) leads, lacks)

  verdict_from_goal : (n : ℕ) (state end : State) (steps : List StepText) → LeadTo parts state steps end → (Satisfies parts end parts.goal → ⊥)
      → (unmet : List Tree) × (verdict_from parts n state steps ≡ answer.Goal unmet)
  verdict_from_goal n state end [] leads lacks = by (missing parts state parts.goal) refl
    where
      by : (found : List Tree) → missing parts state parts.goal ≡ found → (unmet : List Tree) × (goal_verdict n (missing parts state parts.goal) ≡ answer.Goal unmet)
      by [] f =
          absurd (lacks (subst (λ (s : State). Satisfies parts s parts.goal) (lead_none_same parts state end leads) (satisfied_from_missing parts state parts.goal f)))
      by (condition ∷ conds) f = (condition ∷ conds, ap (goal_verdict n) f)
  verdict_from_goal n state end (step ∷ steps) leads lacks =
      let (can, rest) = lead_first parts state end step steps leads in
      let (unmet, e) = verdict_from_goal (n + 1) (after parts state step) end steps rest lacks in
      (unmet, verdict_split n state step steps None (hindrance_from_applicable parts state step can) ∙ e)

  pub valid_means_valid : (plan : Plan) → ValidMeansValid parts plan
  valid_means_valid (Steps steps) count = (
    λ e. let (end, leads, holds, is) = valid_from_verdict 0 (is_in parts.init) steps count e in ((end, leads, holds), omega arith),
    λ h. let ((end, leads, holds), is) = h in verdict_from_valid 0 (is_in parts.init) end steps leads holds ∙ ap answer.Valid (let e : 0 + length steps ≡ count = omega arith in e),
  )
  valid_means_valid (Unreadable line) count = (λ e. cc, λ h. absurd h)

  pub fails_means_first_failure : (plan : Plan) → FailsMeansFirstFailure parts plan
  fails_means_first_failure (Steps steps) index = (
    λ h. let (why, e) = h in
        let (before, step, at, is, of, leads, cannot) = fails_from_verdict 0 (is_in parts.init) steps index why e in
        (before, step, at, omega arith, of, leads, cannot),
    λ h. let (before, step, at, is, of, leads, cannot) = h in
        let (why, e) = verdict_from_fails 0 (is_in parts.init) at steps before step of leads cannot in
        (why, e ∙ ap (λ k. answer.Fails k why) (let p : 0 + before + 1 ≡ index = omega arith in p)),
  )
  fails_means_first_failure (Unreadable line) index = (λ h. let (why, e) = h in cc, λ h. absurd h)

  pub goal_means_goal_missed : (plan : Plan) → GoalMeansGoalMissed parts plan
  goal_means_goal_missed (Steps steps) = (
    λ h. let (unmet, e) = h in goal_from_verdict 0 (is_in parts.init) steps unmet e,
    λ h. let (end, leads, lacks) = h in verdict_from_goal 0 (is_in parts.init) end steps leads lacks,
  )
  goal_means_goal_missed (Unreadable line) = (λ h. let (unmet, e) = h in cc, λ h. absurd h)
