use Rattle.std.proofs.Common.{◌≡◌, ◌++◌, ◌-◌, codes, decimal, ap, sym, ◌∙◌}
use Rattle.plan_text.specs.StepAt.{step_at}
use Rattle.report_text.specs.Format.{json_conditions, json_failure, json_verdict}
use Rattle.report_text.proofs.Rendering.{on_ok_more, then}
use Rattle.report_text.proofs.json.push_verdict_members.Goals as goal

pub returns-in_ok-push_with_number-in-Fails : goal.returns-in_ok-push_with_number-in-Fails
returns-in_ok-push_with_number-in-Fails c =
    let t = c.args.text.now in
    let task = c.args.task.now in
    let plan = c.args.plan.now in
    let a = codes "\"fails\",\"step\":" ++ decimal c.in-Fails.step in
    let b = json_failure task (step_at plan (c.in-Fails.step - 1)) c.in-Fails.why in
    let s1 : c.push_with_number-in-Fails.new.text ≡ t ++ a = c.in_ok-push_with_number-in-Fails.ensures in
    on_ok_more c.push_failing_step.result (λ last. then t a b s1 last ∙ ap (λ v. t ++ json_verdict task plan v) (sym c.in-Fails.is)) c.push_failing_step.ensures

pub returns-in_ok-push_conditions-in-Goal : goal.returns-in_ok-push_conditions-in-Goal
returns-in_ok-push_conditions-in-Goal c =
    let t = c.args.text.now in
    let task = c.args.task.now in
    let a = codes "\"goal\",\"missing\":[" in
    let b = json_conditions task c.in-Goal.missing in
    let d = codes "]" in
    let s1 : c.push.new.self ≡ t ++ a = c.in_ok-push-in-Goal.ensures in
    let s2 = then t a b s1 (c.in_ok-push_conditions-in-Goal.ensures ∙ ap (λ l. c.push.new.self ++ json_conditions task l) c.as_slice.ensures) in
    on_ok_more c.push-in-Goal.result (λ last. then t (a ++ b) d s2 last ∙ ap (λ v. t ++ json_verdict task c.args.plan.now v) (sym c.in-Goal.is)) c.push-in-Goal.ensures
