use Rattle.std.proofs.Common.{◌≡◌, ◌++◌, ◌-◌, codes, ap, sym, ◌∙◌}
use Rattle.strips_task.specs.StepView.{step_shown}
use Rattle.report_text.specs.Format.{why_fields}
use Rattle.report_text.specs.Pieces.{name_at}
use Rattle.report_text.proofs.Rendering.{on_ok_more, then}
use Rattle.report_text.proofs.table.push_why_fields.Goals as goal

pub returns-in_ok-push_argument-in-UnknownObject : goal.returns-in_ok-push_argument-in-UnknownObject
returns-in_ok-push_argument-in-UnknownObject c =
    let t = c.args.text.now in
    let step = c.args.step.now in
    let a = codes "unknown object " in
    let b = name_at (step_shown step).args (c.in-UnknownObject.arg - 1) in
    let d = codes "\t" in
    let s1 : c.push-in-UnknownObject.new.self ≡ t ++ a = c.in_ok-push-in-UnknownObject.ensures in
    let s2 = then t a b s1 c.in_ok-push_argument-in-UnknownObject.ensures in
    on_ok_more c.push-in-UnknownObject-2.result (λ last. then t (a ++ b) d s2 last ∙ ap (λ w. t ++ why_fields c.args.task.now (step_shown step) w) (sym c.in-UnknownObject.is)) c.push-in-UnknownObject-2.ensures

pub returns-in_ok-push_argument-in-WrongType : goal.returns-in_ok-push_argument-in-WrongType
returns-in_ok-push_argument-in-WrongType c =
    let t = c.args.text.now in
    let step = c.args.step.now in
    let a = name_at (step_shown step).args (c.in-WrongType.arg - 1) in
    let d = codes " has the wrong type\t" in
    let s1 : c.push_argument-in-WrongType.new.text ≡ t ++ a = c.in_ok-push_argument-in-WrongType.ensures in
    on_ok_more c.push-in-WrongType.result (λ last. then t a d s1 last ∙ ap (λ w. t ++ why_fields c.args.task.now (step_shown step) w) (sym c.in-WrongType.is)) c.push-in-WrongType.ensures
