use Rattle.std.proofs.Common.{◌-◌, length}
use Rattle.std.specs.Prelude.{slice_index}
use Rattle.intake_rules.specs.Intake.{jobs_of}
use Rattle.judge_bench.specs.Keeping.{KeptFindings, OnlyEmits}
use Rattle.judge_bench.specs.Seats.{SitsAt}
use Rattle.judge_bench.proofs.collector.Collector.keep_all_of.Given as goal

-- So far only findings of this planner were emitted.
abbrev pub invariant-loop : goal.invariant-loop
invariant-loop l = record {
  sits : SitsAt l.bench l.self.owner;
  kept : KeptFindings l.bench.setting.task.value l.bench.setting.planners l.self.owner.view l.self.findings;
  emits : OnlyEmits l.planner l.initial.self.owner.view l.self.owner.view;
}

-- Each turn emits a finding, of which there are no more than jobs.
abbrev pub decreases-loop : goal.decreases-loop
decreases-loop l = length (jobs_of l.planner l.self.owner.view.jobs) - slice_index l.self.owner.view.emitted l.planner
