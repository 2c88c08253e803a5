use Rattle.std.proofs.Common.{◌++◌, ◌-◌, ap, sym, ◌∙◌, append_assoc, codes}
use Rattle.strips_task.specs.StepView.{step_shown}
use Rattle.report_text.specs.Pieces.{name_at}
use Rattle.report_text.specs.Report.{why_text}
use Rattle.report_text.proofs.render.push_why.Goals as goal

pub returns-in_ok-push_argument-in-UnknownObject : goal.returns-in_ok-push_argument-in-UnknownObject
returns-in_ok-push_argument-in-UnknownObject c =
    let name = name_at (step_shown c.args.step.now).args (c.in-UnknownObject.arg - 1) in
    c.in_ok-push_argument-in-UnknownObject.ensures
    ∙ ap (λ l. l ++ name) c.in_ok-push-in-UnknownObject.ensures
    ∙ append_assoc c.args.text.now (codes "unknown object ") name
    ∙ ap (λ w. c.args.text.now ++ why_text c.args.task.now (step_shown c.args.step.now) w) (sym c.in-UnknownObject.is)

pub returns-in_ok-push-in-WrongType : goal.returns-in_ok-push-in-WrongType
returns-in_ok-push-in-WrongType c =
    let name = name_at (step_shown c.args.step.now).args (c.in-WrongType.arg - 1) in
    c.in_ok-push-in-WrongType.ensures
    ∙ ap (λ l. l ++ codes " has the wrong type") c.in_ok-push_argument-in-WrongType.ensures
    ∙ append_assoc c.args.text.now name (codes " has the wrong type")
    ∙ ap (λ w. c.args.text.now ++ why_text c.args.task.now (step_shown c.args.step.now) w) (sym c.in-WrongType.is)
