use Rattle.std.proofs.Common.{rules, ◌*◌, ◌≤◌, ◌∙◌, sym, ap}
use Rattle.std.proofs.lemmas.Result.{err_from_is_err_and}
use denote.Param.Weighed.{most}
use Rattle.formulas.specs.Nodes.{tree_of}
use Rattle.formulas.specs.Tree.{height}
use Rattle.formulas.specs.declared.formula.Formula.TheDeep.{size-Formula, deep-Node}
use Rattle.formulas.proofs.Sizes.{list_smaller}
use Rattle.task_reader.specs.Bindings.{bindings, quantifier_of, quantifiers}
use Rattle.task_reader.proofs.Walks.{all_parts, bound_on, first_stops, implied_on, implied_stops, list_on, list_stops, some_parts}
use Rattle.task_reader.proofs.bindings.+formulas.Goals as goal

pub add_formula-add_formulas-requires : goal.add_formula-add_formulas-requires
add_formula-add_formulas-requires t c = (
  (let fits : most size-Formula c.deref-in-And.result.now ≤ 2 * height c.args.formula.now =
      list_smaller c.node.result.now c.args.formula.now c.in-And.parts.items c.deref-in-And.result.now c.node.ensures (ap deep-Node c.in-And.is) c.deref-in-And.ensures.value in
      search rules),
  c.requires,
)

pub add_formula-add_formulas-requires-in-Or : goal.add_formula-add_formulas-requires-in-Or
add_formula-add_formulas-requires-in-Or t c = (
  (let fits : most size-Formula c.deref-in-Or.result.now ≤ 2 * height c.args.formula.now =
      list_smaller c.node.result.now c.args.formula.now c.in-Or.parts.items c.deref-in-Or.result.now c.node.ensures (ap deep-Node c.in-Or.is) c.deref-in-Or.ensures.value in
      search rules),
  c.requires,
)

pub add_formula-returns-in-And : goal.add_formula-returns-in-And
add_formula-returns-in-And t c =
    c.add_formulas.ensures
    ∙ all_parts c.args.counts.now.tally.task.now c.args.tally c.args.around c.args.formula.now c.in-And.parts.items c.deref-in-And.result.now
    (sym c.node.ensures ∙ ap tree_of c.in-And.is) c.deref-in-And.ensures.value

pub add_formula-returns-in-Or : goal.add_formula-returns-in-Or
add_formula-returns-in-Or t c =
    c.add_formulas-in-Or.ensures
    ∙ some_parts c.args.counts.now.tally.task.now c.args.tally c.args.around c.args.formula.now c.in-Or.parts.items c.deref-in-Or.result.now
    (sym c.node.ensures ∙ ap tree_of c.in-Or.is) c.deref-in-Or.ensures.value

pub add_formula-returns-in_ok-next-in-Imply : goal.add_formula-returns-in_ok-next-in-Imply
add_formula-returns-in_ok-next-in-Imply t c =
    c.add_formula-in-Imply-2.ensures
    ∙ implied_on c.args.counts.now.tally.task.now c.args.tally c.in_ok-next-in-Imply.next c.args.around c.args.formula.now c.in-Imply.premise.value c.in-Imply.conclusion.value
    c.deref-in-Imply.result.now c.deref-in-Imply-2.result.now
    (sym c.node.ensures ∙ ap tree_of c.in-Imply.is) c.deref-in-Imply.ensures c.deref-in-Imply-2.ensures c.in_ok-next-in-Imply.ensures

pub add_formula-returns-in_err-next-in-Imply : goal.add_formula-returns-in_err-next-in-Imply
add_formula-returns-in_err-next-in-Imply t c =
    let p = err_from_is_err_and c.from_residual.result c.from_residual.ensures.1 in
    rw (p.1, p.2) (implied_stops c.args.counts.now.tally.task.now c.args.tally c.in_err-next-in-Imply.field-0.0 c.args.around c.args.formula.now
    c.in-Imply.premise.value c.in-Imply.conclusion.value c.deref-in-Imply.result.now
    (sym c.node.ensures ∙ ap tree_of c.in-Imply.is) c.deref-in-Imply.ensures c.in_err-next-in-Imply.ensures)

pub add_bound-returns-in_err-next : goal.add_bound-returns-in_err-next
add_bound-returns-in_err-next t c =
    let p = err_from_is_err_and c.from_residual.result c.from_residual.ensures.1 in
    let task = c.args.counts.now.tally.task.now in
    rw (p.1, p.2) (sym (first_stops c.args.tally c.in_err-next.field-0.0 (quantifier_of task c.args.around c.args.groups.now)
    (quantifiers task (bindings (quantifier_of task c.args.around c.args.groups.now)) c.args.body.now) c.in_err-next.ensures))

pub add_bound-returns : goal.add_bound-returns
add_bound-returns t c =
    c.add_formula.ensures
    ∙ bound_on c.args.counts.now.tally.task.now c.args.tally c.in_ok-next.next c.args.around c.inside.result c.args.groups.now c.args.body.now c.inside.ensures.product c.in_ok-next.ensures

pub add_formulas-returns-in_err-next : goal.add_formulas-returns-in_err-next
add_formulas-returns-in_err-next t c =
    let p = err_from_is_err_and c.from_residual.result c.from_residual.ensures.1 in
    rw (p.1, p.2) (list_stops (quantifiers c.args.counts.now.tally.task.now c.args.around) c.args.formulas.now c.loop-formula.formula-index c.formula-item.result
    c.loop-formula-test.true c.formula-item.is c.loop-formula.next _ c.loop-formula.invariant c.in_err-next.field-0.0 c.in_err-next.ensures)

pub add_formulas-loop-formula-preserved : goal.add_formulas-loop-formula-preserved
add_formulas-loop-formula-preserved t c =
    list_on (quantifiers c.args.counts.now.tally.task.now c.args.around) c.args.formulas.now c.loop-formula.formula-index c.formula-item.result c.loop-formula-test.true c.formula-item.is
    c.loop-formula.next _ c.loop-formula.invariant c.in_ok-next.next c.in_ok-next.ensures
