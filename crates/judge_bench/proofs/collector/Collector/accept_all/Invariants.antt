use Rattle.std.proofs.Common.{length}
use Rattle.judge_bench.specs.Keeping.{KeptFindings}
use Rattle.judge_bench.specs.Seats.{SitsAt}
use Rattle.judge_bench.proofs.OwnersRun.{AcceptedSoFar}
use Rattle.judge_bench.proofs.collector.Collector.accept_all.Given as goal

-- So far the plans before those that are to come were accepted.
abbrev pub invariant-loop-submission : goal.invariant-loop-submission
invariant-loop-submission g l = record {
  sits : SitsAt l.bench l.self.owner;
  kept : KeptFindings l.bench.setting.task.value l.bench.setting.planners l.self.owner.view l.self.findings;
  so_far : AcceptedSoFar l.bench.setting.slots l.bench.setting.planners l.initial.self.owner.view l.self.owner.view (g.I.Intake.to_come l.initial.intake) (g.I.Intake.to_come l.intake);
}

abbrev pub decreases-loop-submission : goal.decreases-loop-submission
decreases-loop-submission g l = length (g.I.Intake.to_come l.intake)
