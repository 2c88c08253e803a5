use Rattle.std.proofs.Common.{◌≡◌, ◌++◌, codes, ap, ◌∙◌}
use Rattle.report_text.specs.Pieces.{json_string}
use Rattle.report_text.proofs.Rendering.{on_ok_more, then}
use Rattle.report_text.proofs.json.push_run.Goals as goal

pub returns : goal.returns
returns c =
    let t = c.args.text.now in
    let task = c.args.task.now in
    let a = codes "{\"type\":\"run\",\"domain\":" in
    let b = json_string task.domain in
    let d = codes ",\"problem\":" in
    let e = json_string task.problem in
    let f = codes "}\n" in
    let s1 : c.push.new.self ≡ t ++ a = c.in_ok-push.ensures in
    let s2 = then t a b s1 (c.in_ok-push_json_string.ensures ∙ ap (λ n. c.push.new.self ++ json_string n) (c.as_bytes.ensures.bytes ∙ c.domain_name.ensures)) in
    let s3 = then t (a ++ b) d s2 c.in_ok-push-2.ensures in
    let s4 = then t ((a ++ b) ++ d) e s3 (c.in_ok-push_json_string-2.ensures ∙ ap (λ n. c.push-2.new.self ++ json_string n) (c.as_bytes-2.ensures.bytes ∙ c.problem_name.ensures)) in
    on_ok_more c.push-3.result (λ last. then t (((a ++ b) ++ d) ++ e) f s4 last) c.push-3.ensures
