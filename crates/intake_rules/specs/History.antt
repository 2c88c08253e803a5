-- Histories: what was asked of an intake, what it answered, and what that leaves behind, which depends only on the events and replies.

use Rattle.std.specs.Prelude.{◌≡◌, ℕ, zero, suc, List, [], ◌∷◌, ◌++◌, ⊤, Option, Some, None, Bool, true, false, ◌&&◌, not, nat_eq, length, map, slice_get, filter, take, is_some, if◌then◌else◌, IfSome}
use Rattle.std.specs.List.{filter_map, list_any}
use Rattle.strips_task.specs.declared.plans.Plan.{Plan}
use Rattle.strips_task.specs.declared.costs.CostedTask.{CostedTask}
use Rattle.intake_rules.specs.declared.finding.Finding.{Finding}
use Rattle.intake_rules.specs.declared.reply.Reply.{Reply}
use Rattle.intake_rules.specs.declared.reply.Reply.TheVariants as reply
use Rattle.intake_rules.specs.declared.stage.Stage.{Stage}
use Rattle.intake_rules.specs.declared.stage.Stage.TheVariants as stage
use Rattle.intake_rules.specs.Findings.{IsRight}
use Rattle.intake_rules.specs.Jobs.{AcceptedPlan}
use Rattle.intake_rules.specs.Intake.{Intake, jobs_of, least_waiting}
use Rattle.intake_rules.specs.Rules.{Event, submit, close, take_job, hand_back, finish, emit, Allows}

-- events with their replies, in order
abbrev pub History : Type 0
History = List (Event × Reply)

-- the planner and the plan of a submit that was accepted
abbrev pub accepted_by : Event × Reply → Option (ℕ × Plan)
accepted_by (submit planner plan, reply.Accepted number) = Some (planner, plan)
accepted_by _ = None

-- the plans that were accepted, numbered from this number on
unfoldable pub numbered_from : ℕ → List (ℕ × Plan) → List AcceptedPlan
numbered_from number [] = []
numbered_from number (plan ∷ plans) = record { number = number; planner = plan.0; plan = plan.1 } ∷ numbered_from (suc number) plans

-- the accepted jobs, in order
unfoldable pub jobs : History → List AcceptedPlan
jobs history = numbered_from 0 (filter_map accepted_by history)

-- the accepted plans of a planner, in order
unfoldable pub accepted : ℕ → History → List Plan
accepted planner history = map (λ job. job.plan) (jobs_of planner (jobs history))

-- the event closed the planner
abbrev pub closes : ℕ → Event × Reply → Bool
closes planner (close other, reply.ClosedNow) = nat_eq other planner
closes planner _ = false

-- a planner is closed once a close of it was answered `ClosedNow`
unfoldable pub is_closed : ℕ → History → Bool
is_closed planner history = list_any (closes planner) history

-- the finding that the event emitted for the planner
abbrev pub emitted_by : ℕ → Event × Reply → Option Finding
emitted_by planner (emit other, reply.Emitted finding) = (if nat_eq other planner then Some finding else None)
emitted_by planner _ = None

-- the findings that were emitted for a planner, in order
unfoldable pub emitted : ℕ → History → List Finding
emitted planner history = filter_map (emitted_by planner) history

-- the finding that finished the job
abbrev pub finished_by : ℕ → Event × Reply → Option Finding
finished_by job (finish other (Some finding), reply.Finished) = (if nat_eq other job then Some finding else None)
finished_by job _ = None

-- the finding with which a job was finished, if it is finished
unfoldable pub finding_of : ℕ → History → Option Finding
finding_of job history = slice_get (filter_map (finished_by job) history) 0

-- the job is finished
abbrev pub is_finished : ℕ → History → Bool
is_finished job history = is_some (finding_of job history)

-- the event took the job
abbrev pub takes : ℕ → Event × Reply → Bool
takes job (take_job, reply.Taken other) = nat_eq other job
takes job _ = false

-- the event handed the job back
abbrev pub returns : ℕ → Event × Reply → Bool
returns job (hand_back other, reply.Returned) = nat_eq other job
returns job _ = false

-- a job is out if it is not finished, and was given out once more than it was handed back
unfoldable pub is_out : ℕ → History → Bool
is_out job history = not (is_finished job history) && nat_eq (length (filter (takes job) history)) (suc (length (filter (returns job) history)))

-- the event emitted the job's finding
abbrev pub emits : ℕ → Event × Reply → Bool
emits job (emit planner, reply.Emitted finding) = nat_eq finding.job.number job
emits job _ = false

-- the finding of a job was emitted
unfoldable pub is_emitted : ℕ → History → Bool
is_emitted job history = list_any (emits job) history

-- the stage of a job that is not emitted: by its finding, and whether it is out
abbrev pub stage_by : Option Finding → Bool → Stage
stage_by (Some finding) out = stage.Finished finding
stage_by None true = stage.Out
stage_by None false = stage.Waiting

-- how far a job has come
unfoldable pub stage_in : History → ℕ → Stage
stage_in history job = (if is_emitted job history then stage.Emitted else stage_by (finding_of job history) (is_out job history))

-- the numbers below this one
unfoldable pub below : ℕ → List ℕ
below zero = []
below (suc n) = below n ++ n ∷ []

-- what a history leaves behind in an intake for `planners` planners
unfoldable pub left_by : ℕ → History → Intake
left_by planners history = record {
  jobs = jobs history;
  stages = map (stage_in history) (below (length (jobs history)));
  closed = map (λ planner. is_closed planner history) (below planners);
  emitted = map (λ planner. length (emitted planner history)) (below planners);
}

-- each reply is one that the rules allow after the pairs before it
abbrev pub IsLawful : ℕ → ℕ → History → Type 0
IsLawful planners slots history = (index : ℕ) (event : Event) (answer : Reply)
    → slice_get history index ≡ Some (event, answer) → Allows slots (left_by planners (take index history)) event answer

-- each take gives out the least job that waits
abbrev pub TakesLeast : ℕ → History → Type 0
TakesLeast planners history = (index job : ℕ)
    → slice_get history index ≡ Some (take_job, reply.Taken job) → least_waiting (left_by planners (take index history)) ≡ Some job

-- if the event is a finish with a finding, the finding is right for the task
abbrev pub IsRightFinish : CostedTask → Event → Type 0
IsRightFinish task (finish job finding) = IfSome finding (IsRight task)
IsRightFinish task _ = ⊤

-- each finding that was handed in is right
abbrev pub HasRightFindings : CostedTask → History → Type 0
HasRightFindings task history = (index : ℕ) (event : Event) (answer : Reply)
    → slice_get history index ≡ Some (event, answer) → IsRightFinish task event
