use Rattle.strips_judge.proofs.VerdictMeanings as meanings
use Rattle.strips_judge.proofs.laws.goal_means_goal_missed.Goals as goal

pub returns : goal.returns
returns c = meanings.goal_means_goal_missed c.args._task.now c.args._plan.now
