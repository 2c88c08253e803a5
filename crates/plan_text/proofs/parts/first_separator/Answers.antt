use Rattle.std.proofs.Common.{arith, sym, ◌∙◌}
use Rattle.std.proofs.lemmas.List.{take_rest}
use Rattle.plan_text.proofs.Bundles.{one_part_start, at_separator, behind_line, behind_lines, one_part}
use Rattle.plan_text.proofs.parts.first_separator.Goals as goal

pub lines-init : goal.lines-init
lines-init c = record { within = omega arith; one_part = one_part_start c.args.text.now }

pub returns-then-is_separator : goal.returns-then-is_separator
returns-then-is_separator c =
    at_separator _ _ _ _ (take_rest c.args.text.now c.lines.start) c.lines-test.true c.lines.invariant.one_part c.line_len-size.ensures
    (sym c.is_separator.ensures ∙ c.if-is_separator.true)

pub lines-preserved-then-plain-gt0 : goal.lines-preserved-then-plain-gt0
lines-preserved-then-plain-gt0 c =
    let plain = c.plain_len-plain.ensures in
    let behind = behind_lines _ _ _ _ (take_rest c.args.text.now c.lines.start) c.lines.invariant.within c.lines.invariant.one_part plain.within plain.one_part in
    record { within = behind.0; one_part = behind.1 }

pub lines-preserved : goal.lines-preserved
lines-preserved c =
    let behind = behind_line _ _ _ _ (take_rest c.args.text.now c.lines.start) c.lines-test.true c.lines.invariant.one_part c.line_len-size.ensures (sym c.is_separator.ensures ∙ c.if-is_separator.false) in
    record { within = behind.0; one_part = behind.1 }

pub returns : goal.returns
returns c = one_part c.args.text.now c.lines.start c.lines-test.false c.lines.invariant.one_part
