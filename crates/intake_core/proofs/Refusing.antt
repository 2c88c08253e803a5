-- What it means that a call is not refused.

use Rattle.std.proofs.Common.{◌≡◌, ◌≢◌, ℕ, ◌<◌, Bool, true, false, not, length, Option, Some, None, ap, sym, refl, arith, true≢false}
use Rattle.std.specs.Prelude.{slice_get, if◌then◌else◌, nat_lt, nat_eq}
use Rattle.std.proofs.lemmas.Bool.{eqb-false}
use Rattle.std.proofs.lemmas.Bool.Decides.{nat_tests}
use Rattle.std.proofs.lemmas.Option.{slice_get-get_or}
use Rattle.intake_rules.specs.declared.finding.Finding.{Finding}
use Rattle.intake_rules.specs.declared.refusal.Refusal.{Refusal}
use Rattle.intake_rules.specs.declared.stage.Stage.{Stage}
use Rattle.intake_rules.specs.declared.stage.Stage.TheVariants.{Waiting, Out, Finished, Emitted}
use Rattle.intake_rules.specs.Jobs.{AcceptedPlan}
use Rattle.intake_rules.specs.Intake.{Intake, is_out_stage, is_finished_stage, stage_of, has_planner, is_closed_in, has_job}
use Rattle.intake_rules.specs.Rules.{submit_refusal, close_refusal, hand_back_refusal, finish_refusal, is_same_job, is_of_job}
use Rattle.intake_rules.proofs.SameJobs.{same_from_test}

-- where no row applies, the first does not, nor does any of the others
passes : (test : Bool) (why : Refusal) (rest : Option Refusal) → (if test then Some why else rest) ≡ None → (test ≡ false) × (rest ≡ None)
passes true why rest e = absurd (cc)
passes false why rest e = (refl, e)

is-lt : (a b : ℕ) → not (nat_lt a b) ≡ false → a < b
is-lt a b e = grind (arith, nat_tests, e)

is-true : (b : Bool) → not b ≡ false → b ≡ true
is-true true e = refl
is-true false e = absurd (true≢false e)

-- a plan is accepted of a planner, and there is room for it
pub record IsAccepted (slots : ℕ) (intake : Intake) (planner : ℕ) : Type 0 where
  pub known : planner < length intake.closed
  pub room : length intake.jobs ≢ slots

pub accepted : (slots : ℕ) (intake : Intake) (planner : ℕ) → submit_refusal slots intake planner ≡ None → IsAccepted slots intake planner
accepted slots intake planner e =
    let first = passes (not (has_planner intake planner)) _ _ e in
    let second = passes (is_closed_in intake planner) _ _ first.1 in
    let third = passes (nat_eq (length intake.jobs) slots) _ _ second.1 in
    record { known = is-lt planner (length intake.closed) first.0; room = eqb-false (length intake.jobs) slots third.0 }

pub open-planner : (intake : Intake) (planner : ℕ) → close_refusal intake planner ≡ None → planner < length intake.closed
open-planner intake planner e =
    let first = passes (not (has_planner intake planner)) _ _ e in
    is-lt planner (length intake.closed) first.0

out_is : (stage : Stage) → is_out_stage stage ≡ true → stage ≡ Out
out_is Waiting e = absurd (true≢false (sym e))
out_is Out e = refl
out_is (Finished finding) e = absurd (true≢false (sym e))
out_is Emitted e = absurd (true≢false (sym e))

-- a job is out
pub record IsOutAt (intake : Intake) (job : ℕ) : Type 0 where
  pub known : job < length intake.jobs
  pub out : stage_of intake job ≡ Out

pub out-at : (intake : Intake) (job : ℕ) → hand_back_refusal intake job ≡ None → IsOutAt intake job
out-at intake job e =
    let first = passes (not (has_job intake job)) _ _ e in
    let second = passes (is_finished_stage (stage_of intake job)) _ _ first.1 in
    let third = passes (not (is_out_stage (stage_of intake job))) _ _ second.1 in
    record { known = is-lt job (length intake.jobs) first.0; out = out_is (stage_of intake job) (is-true (is_out_stage (stage_of intake job)) third.0) }

same-job : (job : Option AcceptedPlan) (other : AcceptedPlan) → is_same_job job other ≡ true → job ≡ Some other
same-job None other e = absurd (true≢false (sym e))
same-job (Some job) other e = ap Some (same_from_test job other e)

-- a finding is of a job that is out
pub record IsStored (intake : Intake) (job : ℕ) (finding : Finding) : Type 0 where
  pub at : IsOutAt intake job
  pub same : slice_get intake.jobs job ≡ Some finding.job

pub stored : (intake : Intake) (job : ℕ) (finding : Finding) → finish_refusal intake job finding ≡ None → IsStored intake job finding
stored intake job finding e =
    let first = passes (not (has_job intake job)) _ _ e in
    let second = passes (is_finished_stage (stage_of intake job)) _ _ first.1 in
    let third = passes (not (is_out_stage (stage_of intake job))) _ _ second.1 in
    let fourth = passes (not (is_of_job intake job finding)) _ _ third.1 in
    record {
      at = record { known = is-lt job (length intake.jobs) first.0; out = out_is (stage_of intake job) (is-true (is_out_stage (stage_of intake job)) third.0) };
      same = same-job (slice_get intake.jobs job) finding.job (is-true (is_of_job intake job finding) fourth.0);
    }

-- the stage of a job by its index
pub stage-at : (intake : Intake) (job : ℕ) → job < length intake.stages → slice_get intake.stages job ≡ Some (stage_of intake job)
stage-at intake job within = slice_get-get_or intake.stages job Waiting within
