use Rattle.std.proofs.Common.{◌≡◌, ◌-◌}
use Rattle.judge_bench.specs.Seats.{SitsAt}
use Rattle.judge_bench.proofs.OwnersRun.{with_first_closed}
use Rattle.judge_bench.proofs.collector.Collector.close_all.Given as goal

-- So far the first planners are closed.
abbrev pub invariant-loop-planner : goal.invariant-loop-planner
invariant-loop-planner l = record {
  sits : SitsAt l.bench l.self.owner;
  view : l.self.owner.view ≡ with_first_closed l.initial.self.owner.view l.planner (l.planners - l.planner);
  findings : l.self.findings ≡ l.initial.self.findings;
}
