use Rattle.std.proofs.Common.{◌≡◌, suc, ◌-◌, ◌++◌, Some, None, ap, sym, ◌∙◌, arith, append-nil}
use Rattle.report_text.proofs.Rendering.{on_ok_more}
use Rattle.report_text.proofs.RowTexts.{row_argument}
use Rattle.report_text.proofs.render.push_argument_of_row.Goals as goal

pub returns-in-Some : goal.returns-in-Some
returns-in-Some c =
    let at : c.max.result ≡ suc (c.args.number - 1) = omega (arith, c.max.ensures) in
    let name = row_argument c.args.row.now c.args.number c.max.result (Some c.in-Some.word.now) c.in-Some.ensures at in
    on_ok_more c.push_folded.result (λ last. last ∙ ap (λ l. c.args.text.now ++ l) name) c.push_folded.ensures

pub returns-in-None : goal.returns-in-None
returns-in-None c =
    let at : c.max.result ≡ suc (c.args.number - 1) = omega (arith, c.max.ensures) in
    let name = row_argument c.args.row.now c.args.number c.max.result None c.in-None.ensures at in
    sym (append-nil c.args.text.now) ∙ ap (λ l. c.args.text.now ++ l) name
