use Rattle.std.proofs.Common.{◌<◌, arith, length, sym, ◌∙◌}
use Rattle.std.proofs.lemmas.Bool.{eqb-true, eqb-false}
use Rattle.pddl_words.proofs.DigitRuns.{no_digit, too_many_digits, other_byte, walked}
use Rattle.pddl_words.proofs.decimals.digits.Goals as goal

pub returns-then-is_empty-clause-value : goal.returns-then-is_empty-clause-value
returns-then-is_empty-clause-value c = no_digit c.args.bytes.now (eqb-true _ _ (sym c.is_empty.ensures ∙ c.if-is_empty.true))

pub returns-then-bytes-gt-MOST_DIGITS-clause-value : goal.returns-then-bytes-gt-MOST_DIGITS-clause-value
returns-then-bytes-gt-MOST_DIGITS-clause-value c = too_many_digits c.args.bytes.now c.if-bytes-gt-MOST_DIGITS.true

pub returns-then-not-is_ascii_digit-clause-value : goal.returns-then-not-is_ascii_digit-clause-value
returns-then-not-is_ascii_digit-clause-value c =
    other_byte c.args.bytes.now c.loop-b.b-index c.loop-b-test.true (sym c.is_ascii_digit.ensures.value ∙ c.if-not-is_ascii_digit.true)

pub returns-clause-value : goal.returns-clause-value
returns-clause-value c =
    let some : 0 < length c.args.bytes.now = omega (arith, eqb-false _ _ (sym c.is_empty.ensures ∙ c.if-is_empty.false)) in
    walked c.args.bytes.now c.loop-b.b-index c.loop-b.value c.loop-b-test.false some c.if-bytes-gt-MOST_DIGITS.false c.loop-b.invariant.digits c.loop-b.invariant.value
