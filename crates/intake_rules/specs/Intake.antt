-- What an intake knows.

use Rattle.std.specs.Prelude.{ℕ, suc, List, [], ◌∷◌, ◌++◌, Option, Bool, true, false, nat_eq, nat_lt, length, slice_get, slice_index, slice_index_or, slice_set, filter, replicate}
use Rattle.std.specs.List.{position_from}
use Rattle.strips_task.specs.declared.plans.Plan.{Plan}
use Rattle.intake_rules.specs.declared.stage.Stage.{Stage}
use Rattle.intake_rules.specs.declared.stage.Stage.TheVariants.{Waiting, Out, Finished, Emitted}
use Rattle.intake_rules.specs.Jobs.{AcceptedPlan}

-- the accepted jobs, how far each has come, which planners are closed, and how many findings were emitted for each planner
pub record Intake : Type 0 where
  pub jobs : List AcceptedPlan
  pub stages : List Stage
  pub closed : List Bool
  pub emitted : List ℕ

-- the intake of `planners` planners that nothing was asked of
abbrev pub empty_intake : ℕ → Intake
empty_intake planners = record { jobs = []; stages = []; closed = replicate planners false; emitted = replicate planners 0 }

-- there is a planner of this number
abbrev pub has_planner : Intake → ℕ → Bool
has_planner intake planner = nat_lt planner (length intake.closed)

-- the planner is closed
abbrev pub is_closed_in : Intake → ℕ → Bool
is_closed_in intake planner = slice_index_or intake.closed planner false

-- there is a job of this number
abbrev pub has_job : Intake → ℕ → Bool
has_job intake job = nat_lt job (length intake.jobs)

-- the stage of a job that waits
abbrev pub is_waiting_stage : Stage → Bool
is_waiting_stage Waiting = true
is_waiting_stage _ = false

-- the stage of a job that was taken and is not finished
abbrev pub is_out_stage : Stage → Bool
is_out_stage Out = true
is_out_stage _ = false

-- the stage of a job that is finished, whether its finding was emitted or not
abbrev pub is_finished_stage : Stage → Bool
is_finished_stage (Finished finding) = true
is_finished_stage Emitted = true
is_finished_stage _ = false

-- the stage of a job; `Waiting` if there is no such job
abbrev pub stage_of : Intake → ℕ → Stage
stage_of intake job = slice_index_or intake.stages job Waiting

-- the first job that waits
abbrev pub least_waiting : Intake → Option ℕ
least_waiting intake = position_from is_waiting_stage 0 intake.stages

-- the job is one of the planner's
abbrev pub is_of : ℕ → AcceptedPlan → Bool
is_of planner job = nat_eq job.planner planner

-- the accepted jobs of a planner, in order
unfoldable pub jobs_of : ℕ → List AcceptedPlan → List AcceptedPlan
jobs_of planner jobs = filter (is_of planner) jobs

-- the first of the planner's jobs whose finding was not emitted
abbrev pub next_job : Intake → ℕ → Option AcceptedPlan
next_job intake planner = slice_get (jobs_of planner intake.jobs) (slice_index intake.emitted planner)

-- the intake with one more job, which waits
abbrev pub with_job : Intake → ℕ → Plan → Intake
with_job intake planner plan = record {
  jobs = intake.jobs ++ record { number = length intake.jobs; planner = planner; plan = plan } ∷ [];
  stages = intake.stages ++ Waiting ∷ [];
  closed = intake.closed;
  emitted = intake.emitted;
}

-- the intake with this planner closed
abbrev pub with_closed : Intake → ℕ → Intake
with_closed intake planner = record {
  jobs = intake.jobs;
  stages = intake.stages;
  closed = slice_set intake.closed planner true;
  emitted = intake.emitted;
}

-- the intake with a job at another stage
abbrev pub with_stage : Intake → ℕ → Stage → Intake
with_stage intake job stage = record {
  jobs = intake.jobs;
  stages = slice_set intake.stages job stage;
  closed = intake.closed;
  emitted = intake.emitted;
}

-- the intake with the finding of this job emitted for this planner
abbrev pub with_emitted : Intake → ℕ → ℕ → Intake
with_emitted intake planner job = record {
  jobs = intake.jobs;
  stages = slice_set intake.stages job Emitted;
  closed = intake.closed;
  emitted = slice_set intake.emitted planner (suc (slice_index intake.emitted planner));
}
