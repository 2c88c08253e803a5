-- How a desk keeps what it knows: a row for each slot in use and one for each planner.

use Rattle.std.specs.Prelude.{◌≡◌, ◌<◌, ◌≤◌, ◌-◌, ℕ, suc, Bool, true, false, List, Option, Some, None, map, length, slice_get, slice_index_or, set, option_map}
use Rattle.bit_rows.specs.Rows.{row_has}
use Rattle.strips_task.specs.declared.costs.CostedTask.{CostedTask}
use Rattle.intake_rules.specs.declared.finding.Finding.{Finding}
use Rattle.intake_rules.specs.declared.stage.Stage.TheVariants.{Finished}
use Rattle.intake_rules.specs.declared.stage.Stage.{Stage}
use Rattle.intake_rules.specs.Findings.{IsRight}
use Rattle.intake_rules.specs.Intake.{Intake, is_waiting_stage, jobs_of, has_planner, next_job}
use Rattle.intake_rules.specs.Jobs.{AcceptedPlan}
use Rattle.intake_core.specs.declared.slot.Slot.{Slot}
use Rattle.intake_core.specs.declared.slot.Planner.{Planner}

-- the jobs of the rows
abbrev pub jobs_in : List Slot → List AcceptedPlan
jobs_in table = map (λ row. row.job) table

-- the stages of the rows
abbrev pub stages_in : List Slot → List Stage
stages_in table = map (λ row. row.stage) table

-- for each row the next job of its planner, if there is one
abbrev pub links_in : List Slot → List (Option ℕ)
links_in table = map (λ row. row.following) table

-- what the rows say
abbrev pub intake_in : List Slot → List Planner → Intake
intake_in table planners = record {
  jobs = jobs_in table;
  stages = stages_in table;
  closed = map (λ row. row.closed) planners;
  emitted = map (λ row. row.emitted) planners;
}

-- the numbers of a planner's jobs, in order
abbrev pub line_of : ℕ → List AcceptedPlan → List ℕ
line_of planner jobs = map (λ job. job.number) (jobs_of planner jobs)

-- the last of some numbers
abbrev pub last_of : List ℕ → Option ℕ
last_of numbers = slice_get numbers (length numbers - 1)

-- a planner's row knows where its line goes on and where it ends, and the links lead along the line
pub record IsLine (jobs : List AcceptedPlan) (links : List (Option ℕ)) (planner : ℕ) (row : Planner) : Type 0 where
  pub next : row.next ≡ slice_get (line_of planner jobs) row.emitted
  pub last : row.last ≡ last_of (line_of planner jobs)
  pub told : row.emitted ≤ length (line_of planner jobs)
  pub along : (k j : ℕ) → slice_get (line_of planner jobs) k ≡ Some j → slice_index_or links j None ≡ slice_get (line_of planner jobs) (suc k)

-- whether a job is waiting, if there is such a job
abbrev pub waits : Option Stage → Bool
waits (Some stage) = is_waiting_stage stage
waits None = false

-- whether the job with this number waits; false if there is no such job
abbrev pub waits_at : List Stage → ℕ → Bool
waits_at stages j = waits (slice_get stages j)

-- the least bit that is set in a row
pub record IsLeastBit (row : List ℕ) (bit : ℕ) : Type 0 where
  pub at : row_has row bit ≡ true
  pub before : (k : ℕ) → k < bit → row_has row k ≡ false

-- a finding in a slot is one of the job there, and right
pub record IsAtRest (task : CostedTask) (job : AcceptedPlan) (finding : Finding) : Type 0 where
  pub same : finding.job ≡ job
  pub right : IsRight task finding

-- how the jobs, stages and links of a desk of this many slots, its planners and the bits of the jobs that wait fit together
pub record IsKept (task : CostedTask) (slots : ℕ) (jobs : List AcceptedPlan) (stages : List Stage) (links : List (Option ℕ)) (planners : List Planner) (waiting : List ℕ) : Type 0 where
  pub few : slots ≤ 65536
  pub room : length jobs ≤ slots
  pub staged : length stages ≡ length jobs
  pub linked : length links ≡ length jobs
  pub numbered : (j : ℕ) (job : AcceptedPlan) → slice_get jobs j ≡ Some job → job.number ≡ j
  pub waiting_is : (j : ℕ) → row_has waiting j ≡ waits_at stages j
  pub at_rest : (j : ℕ) (job : AcceptedPlan) (finding : Finding) → slice_get jobs j ≡ Some job → slice_get stages j ≡ Some (Finished finding) → IsAtRest task job finding
  pub lines : (planner : ℕ) (row : Planner) → slice_get planners planner ≡ Some row → IsLine jobs links planner row

-- the same for the rows of a desk of this many slots
abbrev pub IsKeptIn : CostedTask → ℕ → List Slot → List Planner → List ℕ → Type 0
IsKeptIn task slots table planners waiting = IsKept task slots (jobs_in table) (stages_in table) (links_in table) planners waiting

-- the links once this job follows the one that was the last of its planner
abbrev pub linked : List (Option ℕ) → Option ℕ → ℕ → List (Option ℕ)
linked links (Some last) number = set links last (Some number)
linked links None number = links

-- the first number, or else the second
abbrev pub or_else : Option ℕ → ℕ → Option ℕ
or_else (Some next) number = Some next
or_else None number = Some number

-- a planner's row once this job was accepted: it is the last, and the next if all before it were emitted
abbrev pub joined : Planner → ℕ → Planner
joined row number = record row { next = or_else row.next number; last = Some number }

-- whether a job is finished, if there is such a job
abbrev pub rests : Option Stage → Bool
rests (Some (Finished finding)) = true
rests _ = false

-- whether the slot of this job has a finding
abbrev pub rests_at : Intake → ℕ → Bool
rests_at intake number = rests (slice_get intake.stages number)

-- this is the number of the planner's next job, and it is finished
pub record IsReady (intake : Intake) (planner number : ℕ) : Type 0 where
  pub known : has_planner intake planner ≡ true
  pub next : option_map (λ job. job.number) (next_job intake planner) ≡ Some number
  pub finished : rests_at intake number ≡ true
