use Rattle.task_laws.proofs.Implications as implications
use Rattle.task_laws.proofs.imply_may_be_written_as_or.Goals as goal

pub returns : goal.returns
returns c = record {
  alike = implications.imply_may_be_written_as_or c.args._task.now c.args._plan.now;
  verdict = implications.verdict_is_without_imply c.args._task.now c.args._plan.now;
}
