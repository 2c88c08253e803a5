-- What the owner does for a run, and what it keeps of the findings that it emits.

use Rattle.std.specs.Prelude.{◌≡◌, ◌≢◌, ◌<◌, ◌≤◌, ℕ, ◌+◌, ◌-◌, Bool, true, false, List, ◌++◌, Some, length, map, replicate, take, slice_get, slice_index}
use Rattle.std.specs.List.{range_with_len}
use Rattle.strips_task.specs.declared.costs.CostedTask.{CostedTask}
use Rattle.intake_rules.specs.declared.finding.Finding.{Finding}
use Rattle.intake_rules.specs.Intake.{jobs_of, next_job}
use Rattle.intake_rules.specs.Jobs.{AcceptedPlan}
use Rattle.bench_rule.specs.declared.views.View.{View}
use Rattle.bench_rule.specs.Plays.{SeemsWaiting}
use Rattle.bench_rule.specs.Views.{times, with_emission}
use Rattle.intake_rules.specs.Findings.{right_finding}
use Rattle.judge_bench.specs.Seats.{accepted_intake, with_misses}
use Rattle.judge_bench.specs.Submissions.{SubmissionParts, jobs_from}

-- the right findings of the first of a planner's jobs, as many as were emitted
abbrev pub emitted_of : CostedTask → View → ℕ → List Finding
emitted_of task view planner = take (slice_index view.emitted planner) (map (right_finding task) (jobs_of planner view.jobs))

-- for each planner exactly the emitted findings are kept, and they are no more than it has jobs
pub record KeptFindings (task : CostedTask) (planners : ℕ) (view : View) (findings : List (List Finding)) : Type 0 where
  pub planners_are : length view.closed ≡ planners
  pub count : length view.emitted ≡ planners
  pub within : (planner : ℕ) → slice_index view.emitted planner ≤ length (jobs_of planner view.jobs)
  pub kept : findings ≡ map (emitted_of task view) (range_with_len 0 planners)

-- the planner's next job, if it has one, was not known to be finished
abbrev pub NextIsUnknown : ℕ → View → Type 0
NextIsUnknown planner view = (job : AcceptedPlan) → next_job (accepted_intake view) planner ≡ Some job → times job.number view.finished ≡ 0

-- a finding of the planner was emitted; or none was, its next job was not known to be finished, and only misses were added
abbrev pub KeptNext : ℕ → Bool → View → View → Type 0
KeptNext planner true before later = later ≡ with_emission before planner
KeptNext planner false before later = ((missed : List ℕ) × (later ≡ with_misses before missed)) × NextIsUnknown planner before

-- nothing changed except which jobs were accepted, which findings were emitted, and misses
pub record OnlyAccepts (before later : View) : Type 0 where
  pub closed : later.closed ≡ before.closed
  pub seats_out : later.seats_out ≡ before.seats_out
  pub held : later.held ≡ before.held
  pub finished : later.finished ≡ before.finished

-- the plans were accepted as jobs, numbered on from the earlier ones
abbrev pub AcceptsAll : List SubmissionParts → View → View → Type 0
AcceptsAll plans before later = later.jobs ≡ before.jobs ++ jobs_from (length before.jobs) plans

-- nothing changed except misses and how many findings of this planner were emitted
pub record OnlyEmits (planner : ℕ) (before later : View) : Type 0 where
  pub jobs : later.jobs ≡ before.jobs
  pub finished : later.finished ≡ before.finished
  pub others : (other : ℕ) → other ≢ planner → slice_index later.emitted other ≡ slice_index before.emitted other

-- no slot seems to wait
abbrev pub NoneWaits : View → Type 0
NoneWaits view = (slot : ℕ) → SeemsWaiting slot view → ⊥

-- more slots are known to be finished, and nothing else changed
abbrev pub with_more_finished : View → List ℕ → View
with_more_finished view more = record view { finished = view.finished ++ more }

-- all planners are closed
abbrev pub with_all_closed : View → View
with_all_closed view = record view { closed = replicate (length view.closed) true }

-- `count` more seats are out
abbrev pub with_all_out : View → ℕ → View
with_all_out view count = record view { seats_out = view.seats_out + count }

-- `count` fewer seats are out, and what they finished is known
abbrev pub with_all_joined : View → ℕ → List ℕ → View
with_all_joined view count more = record view { seats_out = view.seats_out - count; finished = view.finished ++ more }

-- each job is known to be finished, by its number
abbrev pub AllKnown : View → Type 0
AllKnown view = (planner index : ℕ) (job : AcceptedPlan) → slice_get (jobs_of planner view.jobs) index ≡ Some job → 0 < times job.number view.finished
