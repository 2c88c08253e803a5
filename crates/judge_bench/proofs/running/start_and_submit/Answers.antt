use Rattle.std.proofs.Common.{length, ap, sym, subst, ◌∙◌}
use Rattle.bench_rule.specs.declared.views.View.{View}
use Rattle.bench_rule.specs.Views.{first_view}
use Rattle.judge_bench.specs.Findings.{nothing_kept}
use Rattle.judge_bench.specs.Keeping.{KeptFindings, with_all_out}
use Rattle.judge_bench.proofs.Emissions.{nothing_emitted, unmoved}
use Rattle.judge_bench.proofs.OwnersRun.{all_closed}
use Rattle.judge_bench.proofs.running.start_and_submit.Goals as goal

pub accept_all-requires-clause-kept : goal.accept_all-requires-clause-kept
accept_all-requires-clause-kept g c =
    let setting = c.args.shared.now.bench.now.setting in
    let task = setting.task.value in
    let ready = c.requires.ready in
    let later = c.start_all.new.owner.view in
    let is = c.in_ok-start_all.ensures.view ∙ ap (λ v. with_all_out v c.args.shared.now.threads) ready.view in
    subst (KeptFindings task setting.planners later) (sym (ready.findings_are ∙ ap nothing_kept (sym ready.planners_are)))
    (unmoved task setting.planners (first_view setting) (nothing_kept setting.planners) (nothing_emitted task setting) later
    (ap (λ (v : View). v.jobs) is) (ap (λ (v : View). v.emitted) is) (ap (λ (v : View). length v.closed) is))
