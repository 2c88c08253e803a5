use Rattle.std.proofs.Common.{rules, ◌*◌, ◌≤◌, ap}
use denote.Param.Weighed.{most}
use Rattle.pddl_syntax.specs.Heights.{height}
use Rattle.pddl_syntax.specs.declared.syntax.trees.FormulaSyntax.TheDeep.{size-FormulaSyntax, deep-FormulaNode}
use Rattle.task_reader.proofs.SyntaxSizes.{formulas_smaller}
use Rattle.task_reader.proofs.spans.+formulas.Goals as goal

pub in_formula-in_formulas-requires : goal.in_formula-in_formulas-requires
in_formula-in_formulas-requires t c = (
  (let fits : most size-FormulaSyntax c.deref-in-And.result.now ≤ 2 * height c.args.formula.now =
      formulas_smaller c.node.result.now c.args.formula.now c.in-And.parts.items c.deref-in-And.result.now c.node.ensures (ap deep-FormulaNode c.in-And.is) c.deref-in-And.ensures.value in
      search rules),
  tt,
)

pub in_formula-in_formulas-requires-in-Or : goal.in_formula-in_formulas-requires-in-Or
in_formula-in_formulas-requires-in-Or t c = (
  (let fits : most size-FormulaSyntax c.deref-in-Or.result.now ≤ 2 * height c.args.formula.now =
      formulas_smaller c.node.result.now c.args.formula.now c.in-Or.parts.items c.deref-in-Or.result.now c.node.ensures (ap deep-FormulaNode c.in-Or.is) c.deref-in-Or.ensures.value in
      search rules),
  tt,
)
