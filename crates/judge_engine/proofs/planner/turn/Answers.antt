use Rattle.std.proofs.Common.{◌++◌, ap, sym, ◌∙◌, append-nil}
use Rattle.judge_engine.proofs.ReportPosition.{turn_other, turn_same}
use Rattle.judge_engine.proofs.planner.turn.Goals as goal

pub returns-then-planner-position-clause-text : goal.returns-then-planner-position-clause-text
returns-then-planner-position-clause-text c =
    sym (append-nil c.args.text.now)
    ∙ ap (λ l. c.args.text.now ++ l) (sym (turn_same c.args.format c.args.task.now c.args.bundles.now c.args.position c.args.planner c.if-planner-position.true).0)

pub returns-then-planner-position-clause-position : goal.returns-then-planner-position-clause-position
returns-then-planner-position-clause-position c =
    sym (turn_same c.args.format c.args.task.now c.args.bundles.now c.args.position c.args.planner c.if-planner-position.true).1

pub returns-clause-text : goal.returns-clause-text
returns-clause-text c =
    c.in_ok-push_planner_line.ensures
    ∙ ap (λ l. c.args.text.now ++ l) (sym (turn_other c.args.format c.args.task.now c.args.bundles.now c.args.position c.args.planner c.if-planner-position.false).0)

pub returns-clause-position : goal.returns-clause-position
returns-clause-position c =
    c.start_of-next.ensures ∙ sym (turn_other c.args.format c.args.task.now c.args.bundles.now c.args.position c.args.planner c.if-planner-position.false).1
