use Rattle.std.proofs.Common.{rules, ◌*◌, ◌≤◌, ap}
use denote.Param.Weighed.{most}
use Rattle.formulas.specs.Tree.{height}
use Rattle.formulas.specs.declared.formula.Formula.TheDeep.{size-Formula, deep-Node}
use Rattle.formulas.proofs.Sizes.{list_smaller}
use Rattle.explanations.proofs.formulae.+formulas.Goals as goal

pub put_formula-put_parts-requires : goal.put_formula-put_parts-requires
put_formula-put_parts-requires t c = (
  (let fits : most size-Formula c.deref-in-And.result.now ≤ 2 * height c.args.formula.now =
      list_smaller c.node.result.now c.args.formula.now c.in-And.parts.items c.deref-in-And.result.now c.node.ensures (ap deep-Node c.in-And.is) c.deref-in-And.ensures.value in
      search rules),
  tt,
)

pub put_formula-put_parts-requires-in-Or : goal.put_formula-put_parts-requires-in-Or
put_formula-put_parts-requires-in-Or t c = (
  (let fits : most size-Formula c.deref-in-Or.result.now ≤ 2 * height c.args.formula.now =
      list_smaller c.node.result.now c.args.formula.now c.in-Or.parts.items c.deref-in-Or.result.now c.node.ensures (ap deep-Node c.in-Or.is) c.deref-in-Or.ensures.value in
      search rules),
  tt,
)
