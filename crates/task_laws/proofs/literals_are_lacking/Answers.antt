use Rattle.task_laws.proofs.Literals.{lack_literals}
use Rattle.task_laws.proofs.literals_are_lacking.Goals as goal

pub returns : goal.returns
returns c = lack_literals c.args._task.now
