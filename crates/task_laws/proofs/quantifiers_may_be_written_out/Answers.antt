use Rattle.task_laws.proofs.WrittenOutEffects as written
use Rattle.task_laws.proofs.quantifiers_may_be_written_out.Goals as goal

pub returns : goal.returns
returns c = record {
  alike = written.quantifiers_may_be_written_out c.args._task.now c.args._plan.now;
  verdict = written.verdict_is_written_out c.args._task.now c.args._plan.now;
}
