use Rattle.std.proofs.Common.{length, ap, ◌∙◌, arith}
use Rattle.bench_rule.specs.declared.views.View.{View}
use Rattle.judge_bench.specs.Keeping.{with_all_joined}
use Rattle.judge_bench.proofs.Emissions.{unmoved}
use Rattle.judge_bench.proofs.OwnersRun.{all_in}
use Rattle.judge_bench.proofs.Results.{on_ok}
use Rattle.judge_bench.proofs.running.judge_with_crew.Goals as goal

pub drain-requires-clause-crew : goal.drain-requires-clause-crew
drain-requires-clause-crew g c κs within = (c.start_and_submit-started.ensures.crew, omega (arith, c.in-Ok.ensures.count, c.requires.crew.3))

pub returns-in-Ok-clause-accepted : goal.returns-in-Ok-clause-accepted
returns-in-Ok-clause-accepted g c = on_ok c.drain.result (all_in _ _ _ _ _ _ c.in-Ok.ensures.accepted c.shut.ensures.view c.drain.ensures.view.1)

pub returns-in-Ok-clause-kept : goal.returns-in-Ok-clause-kept
returns-in-Ok-clause-kept g c =
    let is = c.drain.ensures.view.1 ∙ ap (λ (v : View). with_all_joined v (length c.start_and_submit-started.new.crew.items) c.drain.ensures.view.0) c.shut.ensures.view in
    on_ok c.drain.result
    (unmoved c.args.shared.now.task.now c.args.shared.now.planners c.start_and_submit-started.new.collector.owner.view c.start_and_submit-started.new.collector.findings c.in-Ok.ensures.kept
    c.drain.new.owner.view (ap (λ (v : View). v.jobs) is) (ap (λ (v : View). v.emitted) is) (ap (λ (v : View). length v.closed) is))
