-- Two tasks whose verdicts of a plan differ at most in the conditions that they list judge it alike.

use Rattle.std.proofs.Common.{◌≡◌, ◌↔◌, ℕ, List, ap, sym, ◌∙◌}
use Rattle.formulas.specs.Tree.{Tree}
use Rattle.strips_task.specs.declared.plans.Plan.{Plan}
use Rattle.strips_task.specs.declared.tasks.TaskParts.{TaskParts}
use Rattle.strips_judge.specs.declared.verdict.Verdict.{Verdict}
use Rattle.strips_judge.specs.declared.verdict.Verdict.TheVariants.{Valid, Fails, Goal, Unreadable}
use Rattle.strips_judge.specs.declared.verdict.Why.{Why}
use Rattle.strips_judge.specs.Verdict.{verdict}
use Rattle.strips_judge.proofs.VerdictMeanings.{valid_means_valid, fails_means_first_failure, goal_means_goal_missed}
use Rattle.task_laws.specs.Alike.{IsJudgedAlike}
use Rattle.task_laws.specs.Replaced.{unmet_with, why_with, verdict_with}

module _ (formula : Tree → Tree) where
  valid_with : (given : Verdict) (count : ℕ) → (verdict_with formula given ≡ Valid count) ↔ (given ≡ Valid count)
  valid_with (Valid steps) count = (λ e. e, λ e. e)
  valid_with (Fails step why) count = (λ e. cc, λ e. cc)
  valid_with (Goal unmet) count = (λ e. cc, λ e. cc)
  valid_with (Unreadable line) count = (λ e. e, λ e. e)

  fails_with : (given : Verdict) (number : ℕ) → ((why : Why) × (verdict_with formula given ≡ Fails number why)) ↔ ((why : Why) × (given ≡ Fails number why))
  fails_with (Valid steps) number = (λ h. h, λ h. h)
  fails_with (Fails step why) number = (
    λ h. let (other, e) = h in let same : step ≡ number = cc in (why, ap (λ k. Fails k why) same),
    λ h. let (other, e) = h in let same : step ≡ number = cc in (why_with formula why, ap (λ k. Fails k (why_with formula why)) same),
  )
  fails_with (Goal unmet) number = (λ h. let (other, e) = h in cc, λ h. let (other, e) = h in cc)
  fails_with (Unreadable line) number = (λ h. h, λ h. h)

  goal_with : (given : Verdict) → ((unmet : List Tree) × (verdict_with formula given ≡ Goal unmet)) ↔ ((unmet : List Tree) × (given ≡ Goal unmet))
  goal_with (Valid steps) = (λ h. h, λ h. h)
  goal_with (Fails step why) = (λ h. let (other, e) = h in cc, λ h. let (other, e) = h in cc)
  goal_with (Goal unmet) = (λ h. (unmet, λ j. Goal unmet), λ h. (unmet_with formula unmet, λ j. Goal (unmet_with formula unmet)))
  goal_with (Unreadable line) = (λ h. h, λ h. h)

  pub alike_by_verdicts : (task other : TaskParts) (plan : Plan) → verdict task plan ≡ verdict_with formula (verdict other plan) → IsJudgedAlike task other plan
  alike_by_verdicts task other plan e = (
    λ count. (
      λ valid. (valid_means_valid other plan count).0 ((valid_with given count).0 (sym e ∙ (valid_means_valid task plan count).1 valid)),
      λ valid. (valid_means_valid task plan count).0 (e ∙ (valid_with given count).1 ((valid_means_valid other plan count).1 valid)),
    ),
    λ number. (
      λ failure. let (why, fails) = (fails_means_first_failure task plan number).1 failure in
          (fails_means_first_failure other plan number).0 ((fails_with given number).0 (why, sym e ∙ fails)),
      λ failure. let (why, fails) = (fails_with given number).1 ((fails_means_first_failure other plan number).1 failure) in
          (fails_means_first_failure task plan number).0 (why, e ∙ fails),
    ),
    (
      λ missed. let (unmet, lacks) = (goal_means_goal_missed task plan).1 missed in (goal_means_goal_missed other plan).0 ((goal_with given).0 (unmet, sym e ∙ lacks)),
      λ missed. let (unmet, lacks) = (goal_with given).1 ((goal_means_goal_missed other plan).1 missed) in (goal_means_goal_missed task plan).0 (unmet, e ∙ lacks),
    ),
  )
    where
      given : Verdict
      given = verdict other plan
