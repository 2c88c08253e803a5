use Rattle.task_laws.proofs.Literals as literals
use Rattle.task_laws.proofs.literals_are_judged_as_strips.Goals as goal

pub returns : goal.returns
returns c = literals.literals_are_judged_as_strips c.args._task.now c.args._plan.now
