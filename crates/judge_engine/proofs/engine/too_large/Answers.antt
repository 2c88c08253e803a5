use Rattle.std.proofs.Common.{◌<◌, ◌≤◌, ◌∙◌, sym, subst, arith, length, List, ℕ}
use Rattle.judge_engine.specs.declared.inlet.TheConstants.{FILE_LIMIT}
use Rattle.judge_engine.proofs.TooLarge.{too_large_domain, too_large_problem, too_large_bundles, large_here, large_later, large_none}
use Rattle.judge_engine.proofs.engine.too_large.Goals as goal

pub returns-then-domain-gt-FILE_LIMIT : goal.returns-then-domain-gt-FILE_LIMIT
returns-then-domain-gt-FILE_LIMIT c = sym (too_large_domain c.args.domain.now c.args.problem.now c.args.bundles.now c.if-domain-gt-FILE_LIMIT.true)

pub returns-then-problem-gt-FILE_LIMIT : goal.returns-then-problem-gt-FILE_LIMIT
returns-then-problem-gt-FILE_LIMIT c =
    sym (too_large_problem c.args.domain.now c.args.problem.now c.args.bundles.now c.if-domain-gt-FILE_LIMIT.false c.if-problem-gt-FILE_LIMIT.true)

pub loop-number-init : goal.loop-number-init
loop-number-init c =
    too_large_bundles c.args.domain.now c.args.problem.now c.args.bundles.now c.if-domain-gt-FILE_LIMIT.false c.if-problem-gt-FILE_LIMIT.false

pub loop-number-preserved : goal.loop-number-preserved
loop-number-preserved c =
    let bundle = c.index-bundles-number.result in
    let short : length bundle.bytes ≤ FILE_LIMIT = subst (λ (l : List ℕ). length l ≤ FILE_LIMIT) c.bytes.ensures c.if-bytes-gt-FILE_LIMIT.false in
    c.loop-number.invariant
    ∙ large_later c.args.bundles.now c.loop-number.number bundle c.loop-number-test.true c.index-bundles-number.is short

pub returns-then-bytes-gt-FILE_LIMIT : goal.returns-then-bytes-gt-FILE_LIMIT
returns-then-bytes-gt-FILE_LIMIT c =
    let bundle = c.index-bundles-number.result in
    let long : FILE_LIMIT < length bundle.bytes = subst (λ (l : List ℕ). FILE_LIMIT < length l) c.bytes.ensures c.if-bytes-gt-FILE_LIMIT.true in
    sym (c.loop-number.invariant
    ∙ large_here c.args.bundles.now c.loop-number.number bundle c.loop-number-test.true c.index-bundles-number.is long)

pub returns : goal.returns
returns c = sym (c.loop-number.invariant ∙ large_none c.args.bundles.now c.loop-number.number (omega (arith, c.loop-number-test.false)))
