use Rattle.std.proofs.Common.{◌≡◌, ℕ, ◌+◌, ◌-◌, length, get_or, ap, ◌∙◌, arith, rules}
use Rattle.plan_text.proofs.Bundles.{one_part_start}
use Rattle.plan_text.proofs.PlainLines.{plain_part}
use Rattle.plan_text.proofs.parts.plain_len.Goals as goal

pub returns-in-Some-eq45-clause-one_part : goal.returns-in-Some-eq45-clause-one_part
returns-in-Some-eq45-clause-one_part c = one_part_start c.args.text.now

pub returns-in-None-clause-one_part : goal.returns-in-None-clause-one_part
returns-in-None-clause-one_part c = one_part_start c.args.text.now

pub returns-in-Some-find-clause-one_part : goal.returns-in-Some-find-clause-one_part
returns-in-Some-find-clause-one_part c =
    let found = c.in-Some-find.ensures in
    let first : c.in-Some.field-0.now ≡ get_or c.args.text.now 0 0 = search rules in
    let back : c.in-Some-find.at + 1 - 1 ≡ c.in-Some-find.at + 0 = omega arith in
    plain_part c.args.text.now (c.in-Some-find.at + 1)
    (record { within = omega (arith, found.1.fits); behind_lf = λ _. ap (λ (k : ℕ). get_or c.args.text.now k 0) back ∙ found.1.reads 0 (omega arith); plain = λ k lt. found.0.before k (omega arith) (omega arith) })
    (omega arith) (λ dash. c.in-Some.field-0-test.1 (first ∙ dash))

pub returns-in-None-find-clause-one_part : goal.returns-in-None-find-clause-one_part
returns-in-None-find-clause-one_part c =
    let none = c.in-None-find.ensures in
    let first : c.in-Some.field-0.now ≡ get_or c.args.text.now 0 0 = search rules in
    plain_part c.args.text.now (length c.args.text.now)
    (record { within = omega arith; behind_lf = λ lt. absurd (omega arith); plain = λ k lt. none k (omega arith) (omega arith) })
    (search rules) (λ dash. c.in-Some.field-0-test.1 (first ∙ dash))
