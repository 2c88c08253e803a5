-- What an intake knows where it answered so.

use Rattle.std.proofs.Common.{◌≡◌, ◌⊎◌, ℕ, ◌+◌, suc, Bool, true, false, not, List, [], ◌∷◌, Option, Some, None, slice_get, refl, ap, ◌∙◌, arith, inl, inr, if◌then◌else◌, cond}
use Rattle.std.specs.List.{position_from}
use Rattle.intake_rules.specs.declared.finding.Finding.{Finding}
use Rattle.intake_rules.specs.declared.refusal.Refusal.TheVariants as refusal
use Rattle.intake_rules.specs.declared.reply.Reply.TheVariants as reply
use Rattle.intake_rules.specs.declared.stage.Stage.{Stage}
use Rattle.intake_rules.specs.declared.stage.Stage.TheVariants as stage
use Rattle.intake_rules.specs.Intake.{Intake, has_planner, has_job, is_waiting_stage, is_out_stage, is_finished_stage, stage_of, least_waiting, next_job}
use Rattle.intake_rules.specs.Jobs.{AcceptedPlan}
use Rattle.intake_rules.specs.Rules.{Event, submit, close, take_job, hand_back, finish, emit, first_that_applies, refused_or, hand_back_refusal, finish_refusal, is_same_job, is_of_job, finding_at, emit_reply_of, emit_reply, reply_to, taken, Allows}
use Rattle.intake_rules.proofs.SameJobs.{same_from_test}

-- a job that is taken back is known, not finished and out
returned_by : (known finished out : Bool)
    → reply.Returned ≡ refused_or (first_that_applies ((not known, refusal.UnknownJob) ∷ (finished, refusal.AlreadyFinished) ∷ (not out, refusal.NotOut) ∷ [])) reply.Returned
    → (known ≡ true) × (out ≡ true)
returned_by true false true e = (refl, refl)
returned_by false finished out e = cc
returned_by true true out e = cc
returned_by true false false e = cc

-- and so is a job that is finished, and the finding is its
finished_by : (known finished out same : Bool)
    → reply.Finished ≡ refused_or (first_that_applies ((not known, refusal.UnknownJob) ∷ (finished, refusal.AlreadyFinished) ∷ (not out, refusal.NotOut) ∷ (not same, refusal.OtherPlan) ∷ [])) reply.Finished
    → (known ≡ true) × (out ≡ true) × (same ≡ true)
finished_by true false true true e = (refl, refl, refl)
finished_by false finished out same e = cc
finished_by true true out same e = cc
finished_by true false false same e = cc
finished_by true false true false e = cc

pub out_from_test : (at : Stage) → is_out_stage at ≡ true → at ≡ stage.Out
out_from_test stage.Out e = refl
out_from_test stage.Waiting e = cc
out_from_test (stage.Finished finding) e = cc
out_from_test stage.Emitted e = cc

pub waiting_from_test : (at : Stage) → is_waiting_stage at ≡ true → at ≡ stage.Waiting
waiting_from_test stage.Waiting e = refl
waiting_from_test stage.Out e = cc
waiting_from_test (stage.Finished finding) e = cc
waiting_from_test stage.Emitted e = cc

pub same_job_from_test : (job : Option AcceptedPlan) (other : AcceptedPlan) → is_same_job job other ≡ true → job ≡ Some other
same_job_from_test None other e = cc
same_job_from_test (Some job) other e = ap Some (same_from_test job other e)

module _ (intake : Intake) where
  pub returned_from : (job : ℕ) → reply.Returned ≡ refused_or (hand_back_refusal intake job) reply.Returned → (has_job intake job ≡ true) × (stage_of intake job ≡ stage.Out)
  returned_from job e =
      let (known, out) = returned_by (has_job intake job) (is_finished_stage (stage_of intake job)) (is_out_stage (stage_of intake job)) e in
      (known, out_from_test (stage_of intake job) out)

  pub finished_from : (job : ℕ) (finding : Finding) → reply.Finished ≡ refused_or (finish_refusal intake job finding) reply.Finished
      → (has_job intake job ≡ true) × (stage_of intake job ≡ stage.Out) × (slice_get intake.jobs job ≡ Some finding.job)
  finished_from job finding e =
      let (known, out, same) = finished_by (has_job intake job) (is_finished_stage (stage_of intake job)) (is_out_stage (stage_of intake job)) (is_of_job intake job finding) e in
      (known, out_from_test (stage_of intake job) out, same_job_from_test (slice_get intake.jobs job) finding.job same)

  finding_from : (job : ℕ) (at : Stage) (finding : Finding) → reply.Emitted finding ≡ finding_at job at → at ≡ stage.Finished finding
  finding_from job (stage.Finished other) finding e = cc
  finding_from job stage.Waiting finding e = cc
  finding_from job stage.Out finding e = cc
  finding_from job stage.Emitted finding e = cc

  pub emitted_from : (planner : ℕ) (finding : Finding) → reply.Emitted finding ≡ emit_reply intake planner
      → (has_planner intake planner ≡ true) × (job : AcceptedPlan) × (next_job intake planner ≡ Some job) × (stage_of intake job.number ≡ stage.Finished finding)
  emitted_from planner finding e = by (has_planner intake planner) (next_job intake planner) e
    where
      by : (has : Bool) (next : Option AcceptedPlan) → reply.Emitted finding ≡ (if has then emit_reply_of intake planner next else reply.Refused refusal.NoPlanner)
          → (has ≡ true) × (job : AcceptedPlan) × (next ≡ Some job) × (stage_of intake job.number ≡ stage.Finished finding)
      by true (Some job) f = (refl, job, refl, finding_from job.number (stage_of intake job.number) finding f)
      by true None f = cc
      by false next f = cc

-- the first stage that waits is one that waits
pub waits_from_position : (from : ℕ) (stages : List Stage) (index : ℕ) → position_from is_waiting_stage from stages ≡ Some index
    → (i : ℕ) × (index ≡ from + i) × (slice_get stages i ≡ Some stage.Waiting)
waits_from_position from [] index e = cc
waits_from_position from (at ∷ stages) index e = by (is_waiting_stage at) refl (waits_from_position (from + 1) stages index) e
  where
    by : (waits : Bool) → is_waiting_stage at ≡ waits
        → (position_from is_waiting_stage (from + 1) stages ≡ Some index → (i : ℕ) × (index ≡ from + 1 + i) × (slice_get stages i ≡ Some stage.Waiting))
        → cond waits (Some from) (position_from is_waiting_stage (from + 1) stages) ≡ Some index
        → (i : ℕ) × (index ≡ from + i) × (slice_get (at ∷ stages) i ≡ Some stage.Waiting)
    by true waits rest f = let same : from ≡ index = cc in (0, omega arith, ap Some (waiting_from_test at waits))
    by false waits rest f = let (i, is, stands) = rest f in (suc i, omega arith, stands)

-- the answer of an intake that gives out the least job is one that the rules allow
pub least_allowed : (slots : ℕ) (intake : Intake) (event : Event) → Allows slots intake event (reply_to slots intake event)
least_allowed slots intake (submit planner plan) = refl
least_allowed slots intake (close planner) = refl
least_allowed slots intake take_job = by (least_waiting intake) refl
  where
    by : (least : Option ℕ) → least_waiting intake ≡ least
        → ((taken (least_waiting intake) ≡ reply.NoJob) × (least_waiting intake ≡ None))
        ⊎ ((job : ℕ) × (taken (least_waiting intake) ≡ reply.Taken job) × (slice_get intake.stages job ≡ Some stage.Waiting))
    by None e = inl (ap taken e, e)
    by (Some job) e =
        let (i, is, stands) = waits_from_position 0 intake.stages job e in
        inr (job, ap taken e, ap (λ k. slice_get intake.stages k) (let f : job ≡ i = omega arith in f) ∙ stands)
least_allowed slots intake (hand_back job) = refl
least_allowed slots intake (finish job finding) = refl
least_allowed slots intake (emit planner) = refl
