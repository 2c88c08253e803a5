use Rattle.std.proofs.Common.{◌≡◌, ◌<◌, ℕ, length}
use Rattle.std.specs.Prelude.{slice_index}
use Rattle.intake_rules.specs.Intake.{jobs_of}
use Rattle.judge_bench.specs.Keeping.{AllKnown, KeptFindings}
use Rattle.judge_bench.specs.Seats.{SitsAt}
use Rattle.judge_bench.proofs.collector.Collector.finish.Given as goal

-- So far all findings of the first planners are kept.
abbrev pub invariant-loop-planner : goal.invariant-loop-planner
invariant-loop-planner l = record {
  sits : SitsAt l.bench l.collector.owner;
  kept : KeptFindings l.bench.setting.task.value l.bench.setting.planners l.collector.owner.view l.collector.findings;
  jobs : l.collector.owner.view.jobs ≡ l.fn.self.owner.view.jobs;
  known : AllKnown l.collector.owner.view;
  emitted : (other : ℕ) → other < l.planner → slice_index l.collector.owner.view.emitted other ≡ length (jobs_of other l.collector.owner.view.jobs);
}
