-- What an intake answers, and what it knows afterwards. Each table has one row for each case, and the first row that applies is the answer.

use Rattle.std.specs.Prelude.{◌≡◌, ◌⊎◌, ℕ, List, [], ◌∷◌, Option, Some, None, Bool, false, not, nat_eq, length, slice_get, if◌then◌else◌}
use Rattle.strips_task.specs.declared.plans.Plan.{Plan}
use Rattle.intake_rules.specs.declared.finding.Finding.{Finding}
use Rattle.intake_rules.specs.declared.refusal.Refusal.{Refusal}
use Rattle.intake_rules.specs.declared.refusal.Refusal.TheVariants as refusal
use Rattle.intake_rules.specs.declared.reply.Reply.{Reply}
use Rattle.intake_rules.specs.declared.reply.Reply.TheVariants as reply
use Rattle.intake_rules.specs.declared.stage.Stage.{Stage}
use Rattle.intake_rules.specs.declared.stage.Stage.TheVariants as stage
use Rattle.intake_rules.specs.Jobs.{AcceptedPlan, job_eq}
use Rattle.intake_rules.specs.Intake.{Intake, has_planner, is_closed_in, has_job, is_out_stage, is_finished_stage, stage_of, least_waiting, next_job, with_job, with_closed, with_stage, with_emitted}

-- what is asked of an intake; a finish has no finding if the job that was to be judged for it is not known
pub data Event : Type 0 where
  submit : ℕ → Plan → Event
  close : ℕ → Event
  take_job : Event
  hand_back : ℕ → Event
  finish : ℕ → Option Finding → Event
  emit : ℕ → Event

-- the refusal of the first row that applies
abbrev pub first_that_applies : List (Bool × Refusal) → Option Refusal
first_that_applies [] = None
first_that_applies (row ∷ rows) = (if row.0 then Some row.1 else first_that_applies rows)

-- why a plan is not accepted, in an intake of this many slots
abbrev pub submit_refusal : ℕ → Intake → ℕ → Option Refusal
submit_refusal slots intake planner = first_that_applies
    ((not (has_planner intake planner), refusal.NoPlanner)
    ∷ (is_closed_in intake planner, refusal.Closed)
    ∷ (nat_eq (length intake.jobs) slots, refusal.Full)
    ∷ [])

-- why a planner is not closed
abbrev pub close_refusal : Intake → ℕ → Option Refusal
close_refusal intake planner = first_that_applies
    ((not (has_planner intake planner), refusal.NoPlanner)
    ∷ (is_closed_in intake planner, refusal.AlreadyClosed)
    ∷ [])

-- why a job is not handed back
abbrev pub hand_back_refusal : Intake → ℕ → Option Refusal
hand_back_refusal intake job = first_that_applies
    ((not (has_job intake job), refusal.UnknownJob)
    ∷ (is_finished_stage (stage_of intake job), refusal.AlreadyFinished)
    ∷ (not (is_out_stage (stage_of intake job)), refusal.NotOut)
    ∷ [])

-- there is such a job, and the other is the same
abbrev pub is_same_job : Option AcceptedPlan → AcceptedPlan → Bool
is_same_job None other = false
is_same_job (Some job) other = job_eq job other

-- the finding is of the job of this number: the same number, planner and plan
abbrev pub is_of_job : Intake → ℕ → Finding → Bool
is_of_job intake job finding = is_same_job (slice_get intake.jobs job) finding.job

-- why a finding is not stored for a job
abbrev pub finish_refusal : Intake → ℕ → Finding → Option Refusal
finish_refusal intake job finding = first_that_applies
    ((not (has_job intake job), refusal.UnknownJob)
    ∷ (is_finished_stage (stage_of intake job), refusal.AlreadyFinished)
    ∷ (not (is_out_stage (stage_of intake job)), refusal.NotOut)
    ∷ (not (is_of_job intake job finding), refusal.OtherPlan)
    ∷ [])

-- why there is no finding once all findings of a planner were emitted: no more will come, or more may come
abbrev pub nothing_left : Bool → Refusal
nothing_left closed = (if closed then refusal.Complete else refusal.NothingYet)

-- the reply to an emit whose job is at this stage
abbrev pub finding_at : ℕ → Stage → Reply
finding_at job (stage.Finished finding) = reply.Emitted finding
finding_at job _ = reply.Refused (refusal.NotReady job)

-- the reply to an emit for a planner whose next job is this one, or who has none
abbrev pub emit_reply_of : Intake → ℕ → Option AcceptedPlan → Reply
emit_reply_of intake planner (Some job) = finding_at job.number (stage_of intake job.number)
emit_reply_of intake planner None = reply.Refused (nothing_left (is_closed_in intake planner))

-- the reply to an emit for a planner
abbrev pub emit_reply : Intake → ℕ → Reply
emit_reply intake planner =
    (if has_planner intake planner then emit_reply_of intake planner (next_job intake planner) else reply.Refused refusal.NoPlanner)

-- the refusal, if there is one, or else the reply
abbrev pub refused_or : Option Refusal → Reply → Reply
refused_or (Some why) done = reply.Refused why
refused_or None done = done

-- the job that is given out, or none
abbrev pub taken : Option ℕ → Reply
taken (Some job) = reply.Taken job
taken None = reply.NoJob

-- the answer of an intake of this many slots that always gives out the least waiting job
abbrev pub reply_to : ℕ → Intake → Event → Reply
reply_to slots intake (submit planner plan) = refused_or (submit_refusal slots intake planner) (reply.Accepted (length intake.jobs))
reply_to slots intake (close planner) = refused_or (close_refusal intake planner) reply.ClosedNow
reply_to slots intake take_job = taken (least_waiting intake)
reply_to slots intake (hand_back job) = refused_or (hand_back_refusal intake job) reply.Returned
reply_to slots intake (finish job None) = reply.Refused refusal.UnknownJob
reply_to slots intake (finish job (Some finding)) = refused_or (finish_refusal intake job finding) reply.Finished
reply_to slots intake (emit planner) = emit_reply intake planner

-- the answers that the rules allow: to a take, any job that waits, and `NoJob` only if none waits; to all else, the one answer of the tables
abbrev pub Allows : ℕ → Intake → Event → Reply → Type 0
Allows slots intake take_job answer = ((answer ≡ reply.NoJob) × (least_waiting intake ≡ None))
    ⊎ ((job : ℕ) × (answer ≡ reply.Taken job) × (slice_get intake.stages job ≡ Some stage.Waiting))
Allows slots intake event answer = answer ≡ reply_to slots intake event

-- what an intake knows after an event and its reply; after a refusal, what it knew before
abbrev pub after : Intake → Event → Reply → Intake
after intake (submit planner plan) (reply.Accepted number) = with_job intake planner plan
after intake (close planner) reply.ClosedNow = with_closed intake planner
after intake take_job (reply.Taken job) = with_stage intake job stage.Out
after intake (hand_back job) reply.Returned = with_stage intake job stage.Waiting
after intake (finish job (Some finding)) reply.Finished = with_stage intake job (stage.Finished finding)
after intake (emit planner) (reply.Emitted finding) = with_emitted intake planner finding.job.number
after intake event answer = intake
