use Rattle.std.proofs.Common.{subst}
use Rattle.judge_bench.proofs.Crews.{came_back}
use Rattle.judge_bench.proofs.crew.whole_work.Goals as goal

pub returns : goal.returns
returns g c = came_back _ (g.G.Gate.may_hold c.args.gate.now) _ _ c.work_among.ensures.seat c.requires.seat.1 c.work_among.ensures.worked
