use Rattle.std.proofs.Common.{◌≡◌, ◌++◌, codes, ap, sym, ◌∙◌}
use Rattle.report_text.specs.Format.{json_conditions, json_why}
use Rattle.report_text.proofs.Rendering.{on_ok_more, then}
use Rattle.report_text.proofs.json.push_why.Goals as goal

pub returns-in_ok-push_conditions-in-Missing : goal.returns-in_ok-push_conditions-in-Missing
returns-in_ok-push_conditions-in-Missing c =
    let t = c.args.text.now in
    let task = c.args.task.now in
    let a = codes "\"reason\":\"missing\",\"missing\":[" in
    let b = json_conditions task c.in-Missing.conds in
    let d = codes "]" in
    let s1 : c.push-in-Missing.new.self ≡ t ++ a = c.in_ok-push-in-Missing.ensures in
    let s2 = then t a b s1 (c.in_ok-push_conditions-in-Missing.ensures ∙ ap (λ l. c.push-in-Missing.new.self ++ json_conditions task l) c.as_slice.ensures) in
    on_ok_more c.push-in-Missing-2.result (λ last. then t (a ++ b) d s2 last ∙ ap (λ w. t ++ json_why task w) (sym c.in-Missing.is)) c.push-in-Missing-2.ensures
