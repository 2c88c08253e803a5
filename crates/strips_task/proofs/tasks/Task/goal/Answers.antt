use Rattle.strips_task.proofs.WellFormedParts.{goal_within}
use Rattle.strips_task.proofs.tasks.Task.goal.Goals as goal

pub returns-clause-within : goal.returns-clause-within
returns-clause-within c = goal_within c.self.inside.parts c.self.inside.parts.goal c.self.invariant.goal_fits
