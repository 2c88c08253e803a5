use Rattle.std.proofs.Common.{length, ap, sym, subst, ◌∙◌, arith}
use Rattle.std.specs.Prelude.{slice_index}
use Rattle.std.proofs.lemmas.List.FromFn.{length-map-range_with_len}
use Rattle.bench_rule.specs.Views.{with_emission}
use Rattle.judge_bench.specs.Keeping.{KeptFindings, emitted_of}
use Rattle.judge_bench.proofs.Emissions.{emitted_more}
use Rattle.judge_bench.proofs.JobsOf.{planner_of_next}
use Rattle.judge_bench.proofs.collector.Collector.keep_next.Goals as goal

pub push-requires : goal.push-requires
push-requires c =
    let setting = c.args.bench.now.setting in
    let view = c.args.self.now.owner.view in
    let kept = c.requires.kept.kept in
    let count = ap length kept ∙ length-map-range_with_len (emitted_of setting.task.value view) 0 setting.planners in
    let whose = planner_of_next c.args.planner view.jobs (slice_index view.emitted c.args.planner) c.in-Ok.finding.job c.in-Ok.ensures.next.1 in
    let known = c.requires.planner in
    omega arith

pub returns-in_ok-push-in-Ok-clause-kept : goal.returns-in_ok-push-in-Ok-clause-kept
returns-in_ok-push-in-Ok-clause-kept c =
    let setting = c.args.bench.now.setting in
    let task = setting.task.value in
    let view = c.args.self.now.owner.view in
    let more = emitted_more task setting.planners view c.args.self.now.findings c.requires.kept c.args.planner c.in-Ok.finding c.requires.planner c.in-Ok.ensures.next.1 c.in-Ok.ensures.right in
    subst (λ v. KeptFindings task setting.planners v c.push.new.self) (sym c.in-Ok.ensures.view)
    (subst (KeptFindings task setting.planners (with_emission view c.args.planner)) (sym c.in_ok-push-in-Ok.ensures) more)
