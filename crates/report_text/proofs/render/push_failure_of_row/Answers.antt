use Rattle.std.proofs.Common.{◌≡◌, ◌++◌, codes, ap, ◌∙◌}
use Rattle.pddl_words.specs.Words.{folded}
use Rattle.strips_task.specs.Spelled.{step_spelled}
use Rattle.report_text.specs.Report.{why_text}
use Rattle.report_text.proofs.Rendering.{on_ok_more, then}
use Rattle.report_text.proofs.RowTexts.{row_failure}
use Rattle.report_text.proofs.render.push_failure_of_row.Goals as goal

pub returns : goal.returns
returns c =
    let t = c.args.text.now in
    let row = c.args.row.now in
    let a = codes " (" in
    let b = folded row in
    let d = codes "): " in
    let e = why_text c.args.task.now (step_spelled row) c.args.why.now in
    let s1 : c.push.new.self ≡ t ++ a = c.in_ok-push.ensures ∙ ap (λ l. l ++ a) c.reserve.ensures in
    let s2 = then t a b s1 c.in_ok-push_folded.ensures in
    let s3 = then t (a ++ b) d s2 c.in_ok-push-2.ensures in
    on_ok_more c.push_why_of_row.result (λ last. then t ((a ++ b) ++ d) e s3 last ∙ ap (λ l. t ++ l) (row_failure c.args.task.now row c.args.why.now)) c.push_why_of_row.ensures
