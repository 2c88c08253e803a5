use Rattle.judge_bench.proofs.Results.{on_ok}
use Rattle.judge_bench.proofs.collector.judge_left.Goals as goal

pub returns-clause-view : goal.returns-clause-view
returns-clause-view c = on_ok c.judge_rest.result c.judge_rest.ensures.view
