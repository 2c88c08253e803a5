use Rattle.std.proofs.Common.{◌≡◌, ℕ, ◌<◌, ◌++◌, ◌∷◌, [], ◌-◌, ◌+◌, ◌/◌, ◌%◌, ap, sym, ◌∙◌, arith, append_assoc, append-nil, mod-lt}
use Rattle.report_text.specs.CostText.{last_digits, without_end_zeros}
use Rattle.report_text.proofs.CostTexts.{power, first_digit, one_digit, zeros_end}
use Rattle.report_text.proofs.costs.push_digits.Goals as goal

pub nonzero_div-left : goal.nonzero_div-left
nonzero_div-left c = rw c.pow-unit.ensures (power (c.loop-left.indexes - 1))

pub overflow_cast-left : goal.overflow_cast-left
overflow_cast-left c =
    let digit : c.loop-left.left / c.pow-unit.result < 10 = rw c.pow-unit.ensures (one_digit c.loop-left.indexes c.loop-left.left c.loop-left-test.true c.loop-left.invariant.below) in
    omega (arith, digit)

pub overflow_add-left : goal.overflow_add-left
overflow_add-left c =
    let digit : c.loop-left.left / c.pow-unit.result < 10 = rw c.pow-unit.ensures (one_digit c.loop-left.indexes c.loop-left.left c.loop-left-test.true c.loop-left.invariant.below) in
    omega (arith, digit)

pub nonzero_rem-left : goal.nonzero_rem-left
nonzero_rem-left c = rw c.pow-unit.ensures (power (c.loop-left.indexes - 1))

pub loop-left-preserved : goal.loop-left-preserved
loop-left-preserved c =
    let text = c.loop-left.text in
    let indexes = c.loop-left.indexes in
    let left = c.loop-left.left in
    let others = λ (unit : ℕ). without_end_zeros (last_digits (indexes - 1) (left % unit)) in
    let first = first_digit indexes left c.loop-left-test.true c.loop-left.invariant.below in
    record {
      same = ap (λ l. l ++ others c.pow-unit.result) c.in_ok-push.ensures
          ∙ append_assoc text ((48 + left / c.pow-unit.result) ∷ []) (others c.pow-unit.result)
          ∙ ap (λ unit. text ++ (48 + left / unit) ∷ others unit) c.pow-unit.ensures
          ∙ ap (λ l. text ++ l) (sym first)
          ∙ c.loop-left.invariant.same;
      below = rw c.pow-unit.ensures (mod-lt left (power (indexes - 1)));
      few = omega (arith, c.loop-left.invariant.few);
    }

pub returns : goal.returns
returns c =
    let text = c.loop-left.text in
    let indexes = c.loop-left.indexes in
    let none : c.loop-left.left ≡ 0 = omega arith in
    sym (append-nil text)
    ∙ ap (λ l. text ++ l) (sym (zeros_end indexes))
    ∙ ap (λ n. text ++ without_end_zeros (last_digits indexes n)) (sym none)
    ∙ c.loop-left.invariant.same
