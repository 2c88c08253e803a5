use Rattle.std.proofs.Common.{rules, ◌*◌, ◌≤◌, ap}
use denote.Param.Weighed.{most}
use Rattle.pddl_syntax.specs.Heights.{height}
use Rattle.pddl_syntax.specs.declared.syntax.trees.FormulaSyntax.TheDeep.{size-FormulaSyntax, deep-FormulaNode}
use Rattle.pddl_reader.proofs.SyntaxSizes.{formulas_smaller}
use Rattle.pddl_reader.proofs.resolution.conditions.+conjuncts.Goals as goal

pub put_conjuncts-put_all_conjuncts-requires : goal.put_conjuncts-put_all_conjuncts-requires
put_conjuncts-put_all_conjuncts-requires t c =
    let fits : most size-FormulaSyntax c.deref.result.now ≤ 2 * height c.args.syntax.now =
    formulas_smaller c.node.result.now c.args.syntax.now c.in-And.parts.items c.deref.result.now c.node.ensures (ap deep-FormulaNode c.in-And.is) c.deref.ensures.value in
    search rules
