use Rattle.std.proofs.Common.{arith}
use Rattle.strips_task.proofs.tasks.Task.object_count.Goals as goal

pub returns-clause-few : goal.returns-clause-few
returns-clause-few c = omega (arith, c.self.invariant.few_objects, c.len.ensures)
