use Rattle.pddl_reader.proofs.AssembledTasks.{parts_well_formed, task_put_together}
use Rattle.pddl_reader.proofs.resolution.problem.assemble.Goals as goal

pub make-task-requires : goal.make-task-requires
make-task-requires c = parts_well_formed c.domain.inside.head c.domain.inside.tables c.args.given c.args.domain c.domain.view_is c.requires.well_formed

pub returns : goal.returns
returns c =
    task_put_together c.domain.inside.head c.domain.inside.tables c.args.given c.args.domain c.make-task.result c.costs.result c.domain.view_is c.make-task.ensures c.costs.ensures
