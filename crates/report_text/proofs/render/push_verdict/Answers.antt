use Rattle.std.proofs.Common.{◌++◌, ap, sym, ◌∙◌, append_assoc, codes, decimal}
use Rattle.report_text.specs.Report.{conditions_text, verdict_text}
use Rattle.report_text.proofs.render.push_verdict.Goals as goal

pub returns-in_ok-push_conditions-in-Goal : goal.returns-in_ok-push_conditions-in-Goal
returns-in_ok-push_conditions-in-Goal c =
    c.in_ok-push_conditions-in-Goal.ensures
    ∙ (λ j. c.in_ok-push-in-Goal.ensures j ++ conditions_text c.args.task.now (c.as_slice.ensures j))
    ∙ append_assoc c.args.text.now (codes "goal missing") (conditions_text c.args.task.now c.in-Goal.missing)
    ∙ ap (λ v. c.args.text.now ++ verdict_text c.args.task.now c.args.plan.now v) (sym c.in-Goal.is)

pub returns-in_ok-push_number-in-Unreadable : goal.returns-in_ok-push_number-in-Unreadable
returns-in_ok-push_number-in-Unreadable c =
    c.in_ok-push_number-in-Unreadable.ensures
    ∙ ap (λ l. l ++ decimal c.in-Unreadable.line) c.in_ok-push-in-Unreadable.ensures
    ∙ append_assoc c.args.text.now (codes "unreadable line ") (decimal c.in-Unreadable.line)
    ∙ ap (λ v. c.args.text.now ++ verdict_text c.args.task.now c.args.plan.now v) (sym c.in-Unreadable.is)
