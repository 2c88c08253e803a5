use Rattle.std.proofs.Common.{◌∙◌, sym}
use Rattle.task_reader.proofs.Capping.{added_none, added_some}
use Rattle.task_reader.proofs.bindings.added.Goals as goal

pub returns-then-have_variables : goal.returns-then-have_variables
returns-then-have_variables c =
    c.inside.ensures.product
    ∙ sym (added_some c.args.counts.now.tally.task.now c.args.groups.now c.args.around c.have_variables.result c.have_variables.ensures.1 c.if-have_variables.true)

pub returns-else-have_variables : goal.returns-else-have_variables
returns-else-have_variables c =
    sym (added_none c.args.counts.now.tally.task.now c.args.groups.now c.args.around (c.have_variables.ensures.0 c.if-have_variables.false))
