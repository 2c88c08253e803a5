-- The verdict names the reason that the run of a plan breaks off.

use Rattle.std.proofs.Common.{◌≡◌, ℕ, ◌+◌, suc, List, [], ◌∷◌, Option, Some, None, slice_get, take, inl, inr, refl, ap, sym, ◌∙◌, arith}
use Rattle.std.specs.Option.{option_or}
use Rattle.formulas.specs.Tree.{Tree}
use Rattle.strips_task.specs.declared.plans.Plan.{Plan}
use Rattle.strips_task.specs.declared.plans.Plan.TheVariants.{Steps, Unreadable}
use Rattle.strips_task.specs.declared.steps.StepText.{StepText}
use Rattle.strips_task.specs.declared.tasks.TaskParts.{TaskParts}
use Rattle.strips_judge.specs.declared.verdict.Verdict.TheVariants as answer
use Rattle.strips_judge.specs.declared.verdict.Why.{Why}
use Rattle.strips_judge.specs.State.{State, is_in}
use Rattle.strips_judge.specs.Step.{fault, precondition, hindrance, after, missing, missing_why}
use Rattle.strips_judge.specs.Verdict.{goal_verdict, verdict_from}
use Rattle.strips_judge.specs.Validity.{LeadTo}
use Rattle.strips_judge.proofs.Applicable.{applicable_from_hindrance}
use Rattle.strips_judge.proofs.Runs.{lead_none, lead_more}
use Rattle.strips_judge.proofs.VerdictMeanings.{verdict_split}
use Rattle.strips_judge.specs.Reasons.{AreUnmet, IsReason, FailsNamesTheReason, GoalNamesTheUnmet}
use Rattle.strips_judge.proofs.UnmetConditions.{are_unmet}

module _ (parts : TaskParts) where
  -- what hinders a step is the reason that it is not applicable
  reason : (state : State) (step : StepText) (why : Why) → hindrance parts state step ≡ Some why → IsReason parts state step why
  reason state step why e = by (fault parts step) (missing parts state (precondition parts step)) refl refl
    where
      by : (o : Option Why) (m : List Tree) → fault parts step ≡ o → missing parts state (precondition parts step) ≡ m → IsReason parts state step why
      by (Some found) m f g = inl (f ∙ sym (ap (λ x. option_or x (missing_why (missing parts state (precondition parts step)))) f) ∙ e)
      by None [] f g =
          let apart : missing_why [] ≡ Some why = sym (ap missing_why g) ∙ sym (ap (λ x. option_or x (missing_why (missing parts state (precondition parts step)))) f) ∙ e in
          cc
      by None (condition ∷ conds) f g =
          let same : missing_why (condition ∷ conds) ≡ Some why = sym (ap missing_why g) ∙ sym (ap (λ x. option_or x (missing_why (missing parts state (precondition parts step)))) f) ∙ e in
          inr (f, (condition ∷ conds, cc, are_unmet parts state (precondition parts step) (condition ∷ conds) g (λ none. cc)))

  abbrev FailsFrom : ℕ → State → List StepText → ℕ → Why → Type 0
  FailsFrom n state steps i why = (before : ℕ) × (step : StepText) × (at : State) × (i ≡ n + before + 1) × (slice_get steps before ≡ Some step)
      × LeadTo parts state (take before steps) at × IsReason parts at step why

  fails_for : (n : ℕ) (state : State) (steps : List StepText) (i : ℕ) (why : Why) → verdict_from parts n state steps ≡ answer.Fails i why
      → FailsFrom n state steps i why
  fails_for n state [] i why e = by (missing parts state parts.goal) refl
    where
      by : (unmet : List Tree) → missing parts state parts.goal ≡ unmet → FailsFrom n state [] i why
      by [] f = let apart : answer.Valid n ≡ answer.Fails i why = sym (ap (goal_verdict n) f) ∙ e in cc
      by (condition ∷ conds) f = let apart : answer.Goal (condition ∷ conds) ≡ answer.Fails i why = sym (ap (goal_verdict n) f) ∙ e in cc
  fails_for n state (first ∷ steps) i why e = by (hindrance parts state first) refl (fails_for (n + 1) (after parts state first) steps i why)
    where
      by : (o : Option Why) → hindrance parts state first ≡ o
          → (verdict_from parts (n + 1) (after parts state first) steps ≡ answer.Fails i why → FailsFrom (n + 1) (after parts state first) steps i why)
          → FailsFrom n state (first ∷ steps) i why
      by (Some hindered) f rest =
          let same : answer.Fails (n + 1) hindered ≡ answer.Fails i why = sym (verdict_split parts n state first steps (Some hindered) f) ∙ e in
          let number : n + 1 ≡ i = cc in
          let told : hindered ≡ why = cc in
          (0, first, state, omega arith, refl, lead_none parts state, reason state first why (f ∙ ap Some told))
      by None f rest =
          let (before, step, at, number, of, leads, because) = rest (sym (verdict_split parts n state first steps None f) ∙ e) in
          (suc before, step, at, omega arith, of, lead_more parts state at first (take before steps) (applicable_from_hindrance parts state first f) leads, because)

  goal_for : (n : ℕ) (state : State) (steps : List StepText) (unmet : List Tree) → verdict_from parts n state steps ≡ answer.Goal unmet
      → (end : State) × LeadTo parts state steps end × AreUnmet parts end parts.goal unmet
  goal_for n state [] unmet e = by (missing parts state parts.goal) refl
    where
      by : (found : List Tree) → missing parts state parts.goal ≡ found → (end : State) × LeadTo parts state [] end × AreUnmet parts end parts.goal unmet
      by [] f = let apart : answer.Valid n ≡ answer.Goal unmet = sym (ap (goal_verdict n) f) ∙ e in cc
      by (condition ∷ conds) f =
          let same : answer.Goal (condition ∷ conds) ≡ answer.Goal unmet = sym (ap (goal_verdict n) f) ∙ e in
          let told : condition ∷ conds ≡ unmet = cc in
          (state, lead_none parts state, are_unmet parts state parts.goal unmet (f ∙ told) (λ none. let apart : condition ∷ conds ≡ [] = told ∙ none in cc))
  goal_for n state (step ∷ steps) unmet e = by (hindrance parts state step) refl (goal_for (n + 1) (after parts state step) steps unmet)
    where
      by : (o : Option Why) → hindrance parts state step ≡ o
          → (verdict_from parts (n + 1) (after parts state step) steps ≡ answer.Goal unmet
          → (end : State) × LeadTo parts (after parts state step) steps end × AreUnmet parts end parts.goal unmet)
          → (end : State) × LeadTo parts state (step ∷ steps) end × AreUnmet parts end parts.goal unmet
      by (Some why) f rest = let apart : answer.Fails (n + 1) why ≡ answer.Goal unmet = sym (verdict_split parts n state step steps (Some why) f) ∙ e in cc
      by None f rest =
          let (end, leads, lacks) = rest (sym (verdict_split parts n state step steps None f) ∙ e) in
          (end, lead_more parts state end step steps (applicable_from_hindrance parts state step f) leads, lacks)

  pub failures_name_the_reason : (plan : Plan) → FailsNamesTheReason parts plan
  failures_name_the_reason (Steps steps) number why e =
      let (before, step, at, is, of, leads, because) = fails_for 0 (is_in parts.init) steps number why e in
      (before, step, at, omega arith, of, leads, because)
  failures_name_the_reason (Unreadable line) number why e = cc

  pub missed_goals_name_the_unmet : (plan : Plan) → GoalNamesTheUnmet parts plan
  missed_goals_name_the_unmet (Steps steps) unmet e = goal_for 0 (is_in parts.init) steps unmet e
  missed_goals_name_the_unmet (Unreadable line) unmet e = cc
