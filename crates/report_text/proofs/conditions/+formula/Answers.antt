use Rattle.std.proofs.Common.{rules, ◌*◌, ◌≤◌, ap}
use denote.Param.Weighed.{most}
use Rattle.formulas.specs.Tree.{height}
use Rattle.formulas.specs.declared.formula.Formula.TheDeep.{size-Formula, deep-Node}
use Rattle.formulas.proofs.Sizes.{list_smaller}
use Rattle.report_text.proofs.conditions.+formula.Goals as goal

pub push_formula-push_parts-requires : goal.push_formula-push_parts-requires
push_formula-push_parts-requires t c = (
  (let fits : most size-Formula c.deref-in-And.result.now ≤ 2 * height c.args.formula.now =
      list_smaller c.node.result.now c.args.formula.now c.in-And.parts.items c.deref-in-And.result.now c.node.ensures (ap deep-Node c.in-And.is) c.deref-in-And.ensures.value in
      search rules),
  tt,
)

pub push_formula-push_parts-requires-in-Or : goal.push_formula-push_parts-requires-in-Or
push_formula-push_parts-requires-in-Or t c = (
  (let fits : most size-Formula c.deref-in-Or.result.now ≤ 2 * height c.args.formula.now =
      list_smaller c.node.result.now c.args.formula.now c.in-Or.parts.items c.deref-in-Or.result.now c.node.ensures (ap deep-Node c.in-Or.is) c.deref-in-Or.ensures.value in
      search rules),
  tt,
)
