-- What a run begins with, and what it comes to.

use Rattle.std.specs.Prelude.{◌≡◌, ◌<◌, ◌≤◌, ℕ, List, [], All, Result, IfOk, IfErr, length}
use Rattle.strips_task.specs.declared.costs.CostedTask.{CostedTask}
use Rattle.intake_rules.specs.declared.finding.Finding.{Finding}
use Rattle.bench_rule.specs.declared.views.View.{View}
use Rattle.bench_rule.specs.Views.{first_view}
use Rattle.judge_bench.specs.declared.running.RunFault.{RunFault}
use Rattle.judge_bench.specs.declared.running.RunFault.TheVariants.{Held}
use Rattle.judge_bench.specs.Findings.{findings_of, nothing_kept}
use Rattle.judge_bench.specs.Seats.{BenchFacts, SeatFacts}
use Rattle.judge_bench.specs.Submissions.{SubmissionParts, jobs_from}

-- a bench that was made for a task and `planners` planners, its owner, who did nothing yet, and no findings
pub record IsReady (bench : BenchFacts) (given : CostedTask) (planners : ℕ) (owner : SeatFacts) (findings : List (List Finding)) : Type 0 where
  pub task : bench.setting.task.value ≡ given
  pub planners_are : bench.setting.planners ≡ planners
  pub table : owner.table ≡ bench.table
  pub view : owner.view ≡ first_view bench.setting
  pub findings_are : findings ≡ nothing_kept planners

-- there are no more plans than slots, and the planner of each is below `planners`
pub record MayRun (slots planners : ℕ) (plans : List SubmissionParts) : Type 0 where
  pub room : length plans ≤ slots
  pub known : All (λ plan. plan.planner < planners) plans

-- all plans were accepted as jobs, `workers` seats are out, and the owner holds nothing
pub record AllAccepted (plans : List SubmissionParts) (workers : ℕ) (view : View) : Type 0 where
  pub jobs : view.jobs ≡ jobs_from 0 plans
  pub seats_out : view.seats_out ≡ workers
  pub held : view.held ≡ []

-- a run gives the right findings of all plans, or a fault; and a job that it says was held is one that may be held
pub record FoundOrHeld (task : CostedTask) (planners : ℕ) (plans : List SubmissionParts) (MayHold : ℕ → Type 0) (result : Result (List (List Finding)) RunFault) : Type 0 where
  pub findings : IfOk result (λ found. found ≡ findings_of task planners plans)
  pub held : IfErr result (λ fault. (job : ℕ) → fault ≡ Held job → MayHold job)
