use Rattle.std.proofs.Common.{map, length, ap, sym, subst, ◌∙◌, arith}
use Rattle.bench_rule.specs.declared.views.View.{View}
use Rattle.judge_bench.specs.Findings.{by_planner}
use Rattle.intake_rules.specs.Findings.{right_finding}
use Rattle.judge_bench.specs.Keeping.{KeptFindings}
use Rattle.judge_bench.specs.Bookkeeping.{Numbered}
use Rattle.judge_bench.proofs.Emissions.{all_emitted, unmoved}
use Rattle.judge_bench.proofs.OwnersRun.{all_known}
use Rattle.judge_bench.proofs.collector.Collector.finish.Goals as goal

pub loop-planner-init : goal.loop-planner-init
loop-planner-init c =
    let view = c.args.self.owner.view in
    let later = c.judge_left.new.owner.view in
    let is = c.in_ok-judge_left.ensures.view.1 in
    let jobs = ap (λ (v : View). v.jobs) is in
    let kept = unmoved c.args.task.now c.args.planners view c.args.self.findings c.requires.kept later jobs (ap (λ (v : View). v.emitted) is) (ap (λ (v : View). length v.closed) is) in record {
      sits = c.judge_left.ensures.seat;
      kept = subst (λ task. KeptFindings task c.args.bench.now.setting.planners later c.args.self.findings) (sym c.requires.setting.0)
          (subst (λ planners. KeptFindings c.args.task.now planners later c.args.self.findings) (sym c.requires.setting.1) kept);
      jobs = jobs;
      known = all_known later c.in_ok-judge_left.ensures.none_waits (ap (λ (v : View). v.held) is ∙ c.requires.alone.1) (subst Numbered (sym jobs) c.requires.jobs);
      emitted = λ other h. absurd (omega arith);
    }

pub returns : goal.returns
returns c =
    let was = c.loop-planner.invariant in
    let setting = c.args.bench.now.setting in
    let view = c.loop-planner.collector.owner.view in
    let planners = c.requires.setting.1 in
    let task = c.requires.setting.0 in
    let jobs = was.jobs in
    all_emitted setting.task.value setting.planners view c.loop-planner.collector.findings was.kept (λ planner h. was.emitted planner (omega arith))
    ∙ (λ i. by_planner (planners i) (map (right_finding (task i)) (jobs i)))
