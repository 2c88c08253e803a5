use Rattle.std.proofs.Common.{◌∙◌}
use Rattle.task_reader.specs.Bindings.{quantifier_of}
use Rattle.task_reader.proofs.Walks.{quantifier_past, quantifier_counted, same_count}
use Rattle.task_reader.proofs.bindings.add_quantifier.Goals as goal

pub returns-then-bindings-gt-MOST_BINDINGS : goal.returns-then-bindings-gt-MOST_BINDINGS
returns-then-bindings-gt-MOST_BINDINGS c =
    quantifier_past c.args.tally (quantifier_of c.args.counts.now.tally.task.now c.args.around c.args.groups.now) c.added.result c.saturating_add-bindings.result
    c.added.ensures c.saturating_add-bindings.ensures c.if-bindings-gt-MOST_BINDINGS.true c.variable_past.result c.variable_past.ensures

pub returns : goal.returns
returns c =
    quantifier_counted c.args.tally (quantifier_of c.args.counts.now.tally.task.now c.args.around c.args.groups.now) c.added.result c.saturating_add-bindings.result
    c.added.ensures c.saturating_add-bindings.ensures c.if-bindings-gt-MOST_BINDINGS.false c.variables_with.result
    (c.variables_with.ensures ∙ same_count c.args.counts.now.tally.task.now c.args.groups.now c.args.tally.variables)
