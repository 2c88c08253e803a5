use Rattle.task_laws.proofs.Literals as literals
use Rattle.task_laws.proofs.steps_delete_and_add.Goals as goal

pub returns : goal.returns
returns c = literals.steps_delete_and_add c.args._task.now
