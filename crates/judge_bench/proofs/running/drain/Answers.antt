use Rattle.std.proofs.Common.{◌++◌}
use Rattle.judge_bench.proofs.OwnersRun.{worked_and_joined}
use Rattle.judge_bench.proofs.running.drain.Goals as goal

pub returns-in-Some-clause-view : goal.returns-in-Some-clause-view
returns-in-Some-clause-view g c = (
  c.take_part-own.ensures.view.0 ++ c.join_all-others.ensures.view.0,
  worked_and_joined _ _ _ _ _ _ c.take_part-own.ensures.view.1 c.join_all-others.ensures.view.1,
)

pub returns-in-None-clause-view : goal.returns-in-None-clause-view
returns-in-None-clause-view g c = (
  c.take_part-own.ensures.view.0 ++ c.join_all-others.ensures.view.0,
  worked_and_joined _ _ _ _ _ _ c.take_part-own.ensures.view.1 c.join_all-others.ensures.view.1,
)
