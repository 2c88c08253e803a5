use Rattle.std.proofs.Common.{◌≡◌, false, ◌++◌, ap, sym, ◌∙◌}
use Rattle.std.specs.Char.{is_ascii_uppercase}
use Rattle.std.specs.List.{list_any}
use Rattle.formulas.proofs.FoldedWords.{folded_already}
use Rattle.report_text.proofs.Rendering.{on_ok_more}
use Rattle.report_text.proofs.text.Text.push_folded.Goals as goal

pub returns : goal.returns
returns c =
    let none : list_any is_ascii_uppercase c.args.bytes.now ≡ false = sym c.has_upper_case.ensures ∙ c.if-has_upper_case.false in
    let same = folded_already c.args.bytes.now none in
    on_ok_more c.push-2.result (λ pushed. pushed ∙ ap (λ l. c.args.self.now ++ l) (sym same)) c.push-2.ensures
