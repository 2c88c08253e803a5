use Rattle.std.proofs.Common.{◌≡◌, ◌++◌, ◌-◌, codes, ap, sym, ◌∙◌}
use Rattle.strips_task.specs.Spelled.{step_spelled}
use Rattle.report_text.specs.Pieces.{name_at}
use Rattle.report_text.specs.Report.{why_text}
use Rattle.report_text.proofs.Rendering.{on_ok_more, then}
use Rattle.report_text.proofs.render.push_why_of_row.Goals as goal

pub returns-in_ok-push-in-UnknownObject : goal.returns-in_ok-push-in-UnknownObject
returns-in_ok-push-in-UnknownObject c =
    let t = c.args.text.now in
    let step = step_spelled c.args.row.now in
    let a = codes "unknown object " in
    let b = name_at step.args (c.in-UnknownObject.arg - 1) in
    let s1 : c.push.new.self ≡ t ++ a = c.in_ok-push-in-UnknownObject.ensures in
    on_ok_more c.push_argument_of_row.result (λ last. then t a b s1 last ∙ ap (λ w. t ++ why_text c.args.task.now step w) (sym c.in-UnknownObject.is)) c.push_argument_of_row.ensures

pub returns-in_ok-push_argument_of_row-in-WrongType : goal.returns-in_ok-push_argument_of_row-in-WrongType
returns-in_ok-push_argument_of_row-in-WrongType c =
    let t = c.args.text.now in
    let step = step_spelled c.args.row.now in
    let a = name_at step.args (c.in-WrongType.arg - 1) in
    let b = codes " has the wrong type" in
    let s1 : c.push_argument_of_row-in-WrongType.new.text ≡ t ++ a = c.in_ok-push_argument_of_row-in-WrongType.ensures in
    on_ok_more c.push-in-WrongType.result (λ last. then t a b s1 last ∙ ap (λ w. t ++ why_text c.args.task.now step w) (sym c.in-WrongType.is)) c.push-in-WrongType.ensures
