use Rattle.std.proofs.Common.{◌≡◌, ◌++◌, codes, decimal}
use Rattle.report_text.specs.Format.{json_best, json_cost}
use Rattle.report_text.specs.Pieces.{json_string}
use Rattle.report_text.proofs.Rendering.{on_ok_more, then}
use Rattle.report_text.proofs.json.push_planner_record.Goals as goal

pub returns : goal.returns
returns c =
    let t = c.args.text.now in
    let a = codes "{\"type\":\"planner\",\"planner\":" in
    let b = json_string c.args.name.now in
    let d = codes ",\"plans\":" in
    let e = decimal c.args.plans in
    let f = codes ",\"valid\":" in
    let g = decimal c.args.valid in
    let h = codes ",\"best\":" in
    let i = json_best c.args.best in
    let j = json_cost c.args.cost in
    let k = codes "}\n" in
    let s1 : c.push.new.self ≡ t ++ a = c.in_ok-push.ensures in
    let s2 = then t a b s1 c.in_ok-push_json_string.ensures in
    let s3 = then t (a ++ b) d s2 c.in_ok-push-2.ensures in
    let s4 = then t ((a ++ b) ++ d) e s3 c.in_ok-push_number.ensures in
    let s5 = then t (((a ++ b) ++ d) ++ e) f s4 c.in_ok-push-3.ensures in
    let s6 = then t ((((a ++ b) ++ d) ++ e) ++ f) g s5 c.in_ok-push_number-2.ensures in
    let s7 = then t (((((a ++ b) ++ d) ++ e) ++ f) ++ g) h s6 c.in_ok-push-4.ensures in
    let s8 = then t ((((((a ++ b) ++ d) ++ e) ++ f) ++ g) ++ h) i s7 c.in_ok-push_best_member.ensures in
    let s9 = then t (((((((a ++ b) ++ d) ++ e) ++ f) ++ g) ++ h) ++ i) j s8 c.in_ok-push_cost_member.ensures in
    on_ok_more c.push-5.result (λ last. then t ((((((((a ++ b) ++ d) ++ e) ++ f) ++ g) ++ h) ++ i) ++ j) k s9 last) c.push-5.ensures
