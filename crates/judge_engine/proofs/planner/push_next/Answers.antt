use Rattle.std.proofs.Common.{◌≡◌, ◌+◌, ◌++◌, List, ℕ, length, ap, sym, ◌∙◌, arith, append_assoc}
use Rattle.report_text.specs.Format.{plan_in}
use Rattle.report_text.specs.Report.{as_judged}
use Rattle.judge_engine.specs.Tally.{tally_with}
use Rattle.judge_engine.specs.ReportPosition.{name_of, turn_text}
use Rattle.judge_engine.proofs.ReportPosition.{name_is, turned_stands_well}
use Rattle.judge_engine.proofs.planner.push_next.Goals as goal

pub overflow_add-position : goal.overflow_add-position
overflow_add-position c =
    let well = turned_stands_well (length c.args.bundles.now) 65535 c.args.planner c.args.position c.in_ok-position.position c.requires.planner c.requires.position c.in_ok-position.ensures.position in
    omega (arith, well.few)

pub counted-requires-clause-few : goal.counted-requires-clause-few
counted-requires-clause-few c =
    let well = turned_stands_well (length c.args.bundles.now) 65535 c.args.planner c.args.position c.in_ok-position.position c.requires.planner c.requires.position c.in_ok-position.ensures.position in
    omega (arith, well.few)

pub counted-requires-clause-some : goal.counted-requires-clause-some
counted-requires-clause-some c =
    let well = turned_stands_well (length c.args.bundles.now) 65535 c.args.planner c.args.position c.in_ok-position.position c.requires.planner c.requires.position c.in_ok-position.ensures.position in
    well.some

pub returns-clause-text : goal.returns-clause-text
returns-clause-text c =
    let bundles = c.args.bundles.now in
    let plan = as_judged c.args.finding.now in
    let name : ◌≡◌ {A = List ℕ} c.name.result.now (name_of bundles c.args.planner) =
    c.name.ensures ∙ sym (name_is bundles c.args.planner c.index-bundles-planner.result c.requires.planner c.index-bundles-planner.is) in
    c.in_ok-push_plan_in.ensures
    ∙ (λ j. c.in_ok-position.ensures.text j
    ++ plan_in c.args.format c.args.task.now.task (name j) ((c.in_ok-position.ensures.position j).tally.plans + 1) plan)
    ∙ append_assoc c.args.text.now (turn_text c.args.format c.args.task.now bundles c.args.position c.args.planner) _

pub returns-clause-position : goal.returns-clause-position
returns-clause-position c =
    let tally = c.counted.ensures ∙ ap (λ s. tally_with s.tally (as_judged c.args.finding.now)) c.in_ok-position.ensures.position in
    (λ j. record { planner = c.args.planner; tally = tally j })
