use Rattle.std.proofs.Common.{◌+◌, arith, length, drop, Some, None, ◌∙◌}
use Rattle.std.proofs.lemmas.List.{take_rest}
use Rattle.pddl_words.specs.DecimalReading.{digits_of}
use Rattle.pddl_words.proofs.DigitRuns.{billionths_at, no_whole, no_part, two_parts, one_part, sum_small}
use Rattle.pddl_words.proofs.decimals.billionths.Goals as goal

pub returns-in_err-whole-in-Some-clause-value : goal.returns-in_err-whole-in-Some-clause-value
returns-in_err-whole-in-Some-clause-value c =
    let rest = drop (c.in-Some.at + 1) c.args.number.now in
    c.from_residual.ensures ∙ no_whole _ (digits_of rest) (length rest) c.in_err-whole-in-Some.ensures.value
    ∙ billionths_at c.args.number.now (Some c.in-Some.at) c.in-Some.ensures.value

pub returns-in_err-part-in-Some-clause-value : goal.returns-in_err-part-in-Some-clause-value
returns-in_err-part-in-Some-clause-value c =
    let rest = drop (c.in-Some.at + 1) c.args.number.now in
    let none = rw (take_rest c.args.number.now (c.in-Some.at + 1)) at c.in_err-part-in-Some.ensures.value in
    c.from_residual-in_err-part-in-Some.ensures ∙ no_part _ _ (length rest) none ∙ billionths_at c.args.number.now (Some c.in-Some.at) c.in-Some.ensures.value

pub overflow_add-result : goal.overflow_add-result
overflow_add-result c =
    let small = sum_small c.in_ok-whole-in-Some.whole c.in_ok-part-in-Some.part _ _ c.pow.result c.in_ok-whole-in-Some.ensures.small.0 c.in_ok-whole-in-Some.ensures.small.1 c.in_ok-part-in-Some.ensures.small.0 c.in_ok-part-in-Some.ensures.small.1 c.pow.ensures in
    omega (arith, small)

pub returns-in_ok-part-in-Some-clause-small : goal.returns-in_ok-part-in-Some-clause-small
returns-in_ok-part-in-Some-clause-small c =
    sum_small c.in_ok-whole-in-Some.whole c.in_ok-part-in-Some.part _ _ c.pow.result c.in_ok-whole-in-Some.ensures.small.0 c.in_ok-whole-in-Some.ensures.small.1 c.in_ok-part-in-Some.ensures.small.0 c.in_ok-part-in-Some.ensures.small.1 c.pow.ensures

pub returns-in_err-whole-in-None-clause-value : goal.returns-in_err-whole-in-None-clause-value
returns-in_err-whole-in-None-clause-value c =
    c.from_residual-in_err-whole-in-None.ensures ∙ no_whole _ (Some 0) 0 c.in_err-whole-in-None.ensures.value ∙ billionths_at c.args.number.now None c.in-None.ensures.value

pub returns-in_ok-part-in-Some-clause-value : goal.returns-in_ok-part-in-Some-clause-value
returns-in_ok-part-in-Some-clause-value c =
    let whole = take_rest c.args.number.now (c.in-Some.at + 1) in
    let part = rw whole at c.in_ok-part-in-Some.ensures.value in
    let power = rw whole at c.pow.ensures in
    two_parts _ _ _ c.in_ok-whole-in-Some.whole c.in_ok-part-in-Some.part c.pow.result c.in_ok-whole-in-Some.ensures.value part power
    ∙ billionths_at c.args.number.now (Some c.in-Some.at) c.in-Some.ensures.value

pub returns-in_ok-whole-in-None-clause-value : goal.returns-in_ok-whole-in-None-clause-value
returns-in_ok-whole-in-None-clause-value c =
    one_part _ c.in_ok-whole-in-None.whole c.in_ok-whole-in-None.ensures.value ∙ billionths_at c.args.number.now None c.in-None.ensures.value
