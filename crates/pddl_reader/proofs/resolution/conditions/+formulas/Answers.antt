use Rattle.std.proofs.Common.{rules, ◌*◌, ◌≤◌, ap}
use denote.Param.Weighed.{most}
use Rattle.pddl_syntax.specs.Heights.{height}
use Rattle.pddl_syntax.specs.declared.syntax.trees.FormulaSyntax.TheDeep.{size-FormulaSyntax, deep-FormulaNode}
use Rattle.pddl_reader.proofs.SyntaxSizes.{formulas_smaller}
use Rattle.pddl_reader.proofs.resolution.conditions.+formulas.Goals as goal

pub formula-compound-requires : goal.formula-compound-requires
formula-compound-requires t c =
    let fits : most size-FormulaSyntax c.deref-in-And.result.now ≤ 2 * height c.args.syntax.now =
    formulas_smaller c.node.result.now c.args.syntax.now c.in-And.parts.items c.deref-in-And.result.now c.node.ensures (ap deep-FormulaNode c.in-And.is) c.deref-in-And.ensures.value in
    search rules

pub formula-compound-requires-in-Or : goal.formula-compound-requires-in-Or
formula-compound-requires-in-Or t c =
    let fits : most size-FormulaSyntax c.deref-in-Or.result.now ≤ 2 * height c.args.syntax.now =
    formulas_smaller c.node.result.now c.args.syntax.now c.in-Or.parts.items c.deref-in-Or.result.now c.node.ensures (ap deep-FormulaNode c.in-Or.is) c.deref-in-Or.ensures.value in
    search rules
