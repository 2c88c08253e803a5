use Rattle.judge_bench.proofs.OwnersRun.{last_emitted, still_known}
use Rattle.judge_bench.proofs.collector.Collector.keep_all_of.Goals as goal

pub returns-clause-all : goal.returns-clause-all
returns-clause-all c =
    let was = c.loop.invariant in
    let view = c.loop.self.owner.view in
    last_emitted c.args.planner view c.keep_next.new.self.owner.view c.in_ok-keep_next.field-0 c.if-branch.false c.in_ok-keep_next.ensures.view
    (still_known c.args.self.now.owner.view view was.emits.jobs was.emits.finished c.requires.known)
    (was.kept.within c.args.planner)
