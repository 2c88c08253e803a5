use Rattle.std.proofs.Common.{◌++◌, ◌∙◌}
use Rattle.judge_engine.specs.ReportPosition.{next_text, position_with}
use Rattle.judge_engine.proofs.alone.push_judged.Goals as goal

pub returns-clause-text : goal.returns-clause-text
returns-clause-text c =
    let task = c.task-task.ensures ∙ c.judge_cut.ensures.task in
    c.in_ok-next.ensures.text
    ∙ (λ j. c.args.text.now ++ next_text c.args.format (task j) c.args.bundles.now c.args.position c.args.cut.planner (c.in_ok-finding.ensures.finding j))

pub returns-clause-position : goal.returns-clause-position
returns-clause-position c =
    c.in_ok-next.ensures.position ∙ (λ j. position_with c.args.position c.args.cut.planner (c.in_ok-finding.ensures.finding j))
