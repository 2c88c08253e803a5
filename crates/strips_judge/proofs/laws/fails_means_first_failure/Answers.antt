use Rattle.strips_judge.proofs.VerdictMeanings as meanings
use Rattle.strips_judge.proofs.laws.fails_means_first_failure.Goals as goal

pub returns : goal.returns
returns c = meanings.fails_means_first_failure c.args._task.now c.args._plan.now
