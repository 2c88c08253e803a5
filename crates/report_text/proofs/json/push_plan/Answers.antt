use Rattle.std.proofs.Common.{◌≡◌, ◌++◌, codes, decimal}
use Rattle.report_text.specs.Format.{json_found}
use Rattle.report_text.specs.Pieces.{json_string}
use Rattle.report_text.specs.Report.{as_judged}
use Rattle.report_text.proofs.Rendering.{on_ok_more, then}
use Rattle.report_text.proofs.json.push_plan.Goals as goal

pub returns : goal.returns
returns c =
    let t = c.args.text.now in
    let a = codes "{\"type\":\"plan\",\"planner\":" in
    let b = json_string c.args.name.now in
    let d = codes ",\"plan\":" in
    let e = decimal c.args.number in
    let f = codes ",\"verdict\":" in
    let g = json_found c.args.task.now (as_judged c.args.finding.now) in
    let h = codes "}\n" in
    let s1 : c.push.new.self ≡ t ++ a = c.in_ok-push.ensures in
    let s2 = then t a b s1 c.in_ok-push_json_string.ensures in
    let s3 = then t (a ++ b) d s2 c.in_ok-push-2.ensures in
    let s4 = then t ((a ++ b) ++ d) e s3 c.in_ok-push_number.ensures in
    let s5 = then t (((a ++ b) ++ d) ++ e) f s4 c.in_ok-push-3.ensures in
    let s6 = then t ((((a ++ b) ++ d) ++ e) ++ f) g s5 c.in_ok-push_found.ensures in
    on_ok_more c.push-4.result (λ last. then t (((((a ++ b) ++ d) ++ e) ++ f) ++ g) h s6 last) c.push-4.ensures
