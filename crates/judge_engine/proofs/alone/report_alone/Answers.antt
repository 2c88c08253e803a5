use Rattle.std.proofs.Common.{◌++◌, length, ap, sym, ◌∙◌, arith}
use Rattle.std.proofs.lemmas.List.{length-map}
use Rattle.report_text.specs.Format.{head_in}
use Rattle.judge_engine.specs.Plans.{plan_of_cut}
use Rattle.judge_engine.specs.ReportPosition.{start_of, rest_text}
use Rattle.judge_engine.proofs.Submitted.{count_is}
use Rattle.judge_engine.proofs.ReportPosition.{last_sum, whole_report, some_file}
use Rattle.judge_engine.proofs.alone.report_alone.Goals as goal

pub push_one_by_one-requires-clause-few : goal.push_one_by_one-requires-clause-few
push_one_by_one-requires-clause-few c =
    omega (arith, ap length c.requires.plans, length-map c.args.cuts.now (plan_of_cut c.args.bundles.now), count_is 0 c.args.bundles.now, c.requires.few)

pub returns : goal.returns
returns c =
    let format = c.args.format in
    let task = c.args.task.now in
    let bundles = c.args.bundles.now in
    let head = c.in_ok-push_head.ensures ∙ ap (λ l. l ++ head_in format task.task) c.new-text.ensures in
    c.from_bytes-2.ensures
    ∙ c.into_bytes-2.ensures
    ∙ c.in_ok-push_planner_line.ensures
    ∙ ap (λ l. c.push_one_by_one.new.text ++ l) (last_sum format task bundles c.in_ok-last.last)
    ∙ c.in_ok-last.ensures.text
    ∙ (λ j. head j ++ rest_text format task bundles (start_of 0) (c.requires.plans j))
    ∙ whole_report format task bundles (some_file bundles (sym c.is_empty.ensures ∙ c.if-is_empty.false))
