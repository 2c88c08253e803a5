use Rattle.std.proofs.Common.{◌≡◌, ◌++◌, List, ℕ, sym, ◌∙◌}
use Rattle.report_text.specs.Format.{summary_in}
use Rattle.report_text.proofs.Rendering.{on_ok_more}
use Rattle.judge_engine.specs.ReportPosition.{name_of}
use Rattle.judge_engine.proofs.ReportPosition.{name_is}
use Rattle.judge_engine.proofs.planner.push_planner_line.Goals as goal

pub returns : goal.returns
returns c =
    let bundles = c.args.bundles.now in
    let position = c.args.position in
    let name : ◌≡◌ {A = List ℕ} c.name.result.now (name_of bundles position.planner) =
    c.name.ensures ∙ sym (name_is bundles position.planner c.index-bundles-planner.result c.requires c.index-bundles-planner.is) in
    on_ok_more c.push_summary_in.result
    (λ added. added
    ∙ (λ j. c.args.text.now ++ summary_in c.args.format (name j) position.tally.plans position.tally.valid position.tally.best (c.least_cost.ensures j)))
    c.push_summary_in.ensures
