use Rattle.std.proofs.Common.{rules, ◌*◌, ◌≤◌, ap, ◌+◌, ◌&&◌, drop, sym, ◌∙◌, arith}
use Rattle.std.specs.Cmp.Lexicographic.{pointwise}
use denote.Param.Weighed.{most}
use Rattle.formulas.specs.Equality.{tree_eq}
use Rattle.formulas.specs.Tree.{height}
use Rattle.formulas.specs.declared.formula.Formula.TheDeep.{size-Formula, deep-Node}
use Rattle.formulas.proofs.Pairs.{pair_and_rest}
use Rattle.formulas.proofs.Sizes.{list_smaller}
use Rattle.formulas.proofs.equality.+same.Goals as goal

pub are_same-are_all_same-requires : goal.are_same-are_all_same-requires
are_same-are_all_same-requires t c = (
  (let fits : most size-Formula c.deref-in-And-And.result.now ≤ 2 * height c.args.formula.now =
      list_smaller c.node.result.now c.args.formula.now c.in-And-And.parts.items c.deref-in-And-And.result.now c.node.ensures (ap deep-Node c.in-And-And.is-0) c.deref-in-And-And.ensures.value in
      search rules),
  tt,
)

pub are_same-are_all_same-requires-in-Or-Or : goal.are_same-are_all_same-requires-in-Or-Or
are_same-are_all_same-requires-in-Or-Or t c = (
  (let fits : most size-Formula c.deref-in-Or-Or.result.now ≤ 2 * height c.args.formula.now =
      list_smaller c.node.result.now c.args.formula.now c.in-Or-Or.parts.items c.deref-in-Or-Or.result.now c.node.ensures (ap deep-Node c.in-Or-Or.is-0) c.deref-in-Or-Or.ensures.value in
      search rules),
  tt,
)

pub are_all_same-returns-then-not-are_same : goal.are_all_same-returns-then-not-are_same
are_all_same-returns-then-not-are_same t c =
    let rest = pointwise tree_eq (drop (c.loop-i.i + 1) c.args.formulas.now) (drop (c.loop-i.i + 1) c.args.others.now) in
    sym (c.loop-i.invariant
    ∙ pair_and_rest tree_eq c.args.formulas.now c.args.others.now c.loop-i.i c.index-formulas-i.result c.index-others-i.result c.loop-i-test.true (omega (arith, c.loop-i-test.true, c.if-formulas-others.false)) c.index-formulas-i.is c.index-others-i.is
    ∙ ap (λ same. same && rest) (sym c.are_same.ensures ∙ c.if-not-are_same.true))

pub are_all_same-loop-i-preserved : goal.are_all_same-loop-i-preserved
are_all_same-loop-i-preserved t c =
    let rest = pointwise tree_eq (drop (c.loop-i.i + 1) c.args.formulas.now) (drop (c.loop-i.i + 1) c.args.others.now) in
    c.loop-i.invariant
    ∙ pair_and_rest tree_eq c.args.formulas.now c.args.others.now c.loop-i.i c.index-formulas-i.result c.index-others-i.result c.loop-i-test.true (omega (arith, c.loop-i-test.true, c.if-formulas-others.false)) c.index-formulas-i.is c.index-others-i.is
    ∙ ap (λ same. same && rest) (sym c.are_same.ensures ∙ c.if-not-are_same.false)
