use Rattle.std.proofs.Common.{◌<◌, length, sym, ◌∙◌, arith}
use Rattle.pddl_tokens.proofs.Lemmas.{end_step, line_end_step, blank_step, comment_step, left_step, right_step, word_step, bad_step}
use Rattle.pddl_tokens.proofs.scan.first_from.Goals as goal

pub returns-then-at-text : goal.returns-then-at-text
returns-then-at-text c = sym c.skipping.invariant.0 ∙ end_step _ _ (omega arith)

pub skipping-preserved-in-LineEnd : goal.skipping-preserved-in-LineEnd
skipping-preserved-in-LineEnd c =
    let lt : c.skipping.at < length c.args.text.now = omega arith in
    (sym (line_end_step _ _ lt (sym c.in-LineEnd.ensures)) ∙ c.skipping.invariant.0, omega arith)

pub skipping-preserved-in-Blank : goal.skipping-preserved-in-Blank
skipping-preserved-in-Blank c =
    let lt : c.skipping.at < length c.args.text.now = omega arith in
    (sym (blank_step _ _ lt (sym c.in-Blank.ensures)) ∙ c.skipping.invariant.0, omega arith)

pub skipping-preserved : goal.skipping-preserved
skipping-preserved c =
    let lt : c.skipping.at < length c.args.text.now = omega arith in
    (sym (comment_step _ _ _ lt (sym c.in-Semicolon.ensures) c.comment_len-at.ensures.run) ∙ c.skipping.invariant.0, c.comment_len-at.ensures.within)

pub returns-in-Left : goal.returns-in-Left
returns-in-Left c =
    let lt : c.skipping.at < length c.args.text.now = omega arith in
    (sym c.skipping.invariant.0 ∙ left_step _ _ lt (sym c.in-Left.ensures), omega arith, omega arith)

pub returns-in-Right : goal.returns-in-Right
returns-in-Right c =
    let lt : c.skipping.at < length c.args.text.now = omega arith in
    (sym c.skipping.invariant.0 ∙ right_step _ _ lt (sym c.in-Right.ensures), omega arith, omega arith)

pub returns-in-WordByte : goal.returns-in-WordByte
returns-in-WordByte c =
    let lt : c.skipping.at < length c.args.text.now = omega arith in
    (sym c.skipping.invariant.0 ∙ word_step _ _ _ lt (sym c.in-WordByte.ensures) c.word_len.ensures.run, omega arith, c.word_len.ensures.within)

pub returns-in-Bad : goal.returns-in-Bad
returns-in-Bad c =
    let lt : c.skipping.at < length c.args.text.now = omega arith in
    (sym c.skipping.invariant.0 ∙ bad_step _ _ lt (sym c.in-Bad.ensures), lt)
