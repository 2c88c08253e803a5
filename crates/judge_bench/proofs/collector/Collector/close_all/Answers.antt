use Rattle.std.proofs.Common.{arith}
use Rattle.judge_bench.proofs.OwnersRun.{one_closed}
use Rattle.judge_bench.proofs.collector.Collector.close_all.Goals as goal

pub loop-planner-preserved : goal.loop-planner-preserved
loop-planner-preserved c =
    let was = c.loop-planner.invariant in record {
      sits = c.close.ensures.seat;
      view = one_closed c.args.self.now.owner.view c.loop-planner.self.owner.view c.close.new.self.view c.loop-planner.planner c.args.planners (omega arith) was.view c.in-Ok.ensures.view;
      findings = was.findings;
    }
