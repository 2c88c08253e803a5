use Rattle.std.proofs.Common.{◌≡◌, ◌++◌, codes, decimal, ap, ◌∙◌}
use Rattle.report_text.specs.Format.{field, found_fields}
use Rattle.report_text.specs.Report.{as_judged}
use Rattle.report_text.proofs.Rendering.{on_ok_more, then}
use Rattle.report_text.proofs.table.push_row.Goals as goal

pub returns : goal.returns
returns c =
    let t = c.args.text.now in
    let task = c.args.task.now in
    let judged = as_judged c.args.finding.now in
    let a = task.domain in
    let b = codes "\t" in
    let d = task.problem in
    let e = codes "\t" in
    let f = field c.args.name.now in
    let g = codes "\t" in
    let h = decimal c.args.number in
    let i = codes "\t" in
    let j = found_fields task judged in
    let k = codes "\n" in
    let s1 : c.push.new.self ≡ t ++ a = (c.in_ok-push.ensures ∙ ap (λ n. t ++ n) (c.as_bytes.ensures.bytes ∙ c.domain_name.ensures)) in
    let s2 = then t a b s1 c.in_ok-push-2.ensures in
    let s3 = then t (a ++ b) d s2 (c.in_ok-push-3.ensures ∙ ap (λ n. c.push-2.new.self ++ n) (c.as_bytes-2.ensures.bytes ∙ c.problem_name.ensures)) in
    let s4 = then t ((a ++ b) ++ d) e s3 c.in_ok-push-4.ensures in
    let s5 = then t (((a ++ b) ++ d) ++ e) f s4 c.in_ok-push_field.ensures in
    let s6 = then t ((((a ++ b) ++ d) ++ e) ++ f) g s5 c.in_ok-push-5.ensures in
    let s7 = then t (((((a ++ b) ++ d) ++ e) ++ f) ++ g) h s6 c.in_ok-push_number.ensures in
    let s8 = then t ((((((a ++ b) ++ d) ++ e) ++ f) ++ g) ++ h) i s7 c.in_ok-push-6.ensures in
    let s9 = then t (((((((a ++ b) ++ d) ++ e) ++ f) ++ g) ++ h) ++ i) j s8 c.in_ok-push_found.ensures in
    on_ok_more c.push-7.result (λ last. then t ((((((((a ++ b) ++ d) ++ e) ++ f) ++ g) ++ h) ++ i) ++ j) k s9 last) c.push-7.ensures
