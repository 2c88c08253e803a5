use Rattle.strips_judge.proofs.VerdictMeanings as meanings
use Rattle.strips_judge.proofs.laws.valid_means_valid.Goals as goal

pub returns : goal.returns
returns c = meanings.valid_means_valid c.args._task.now c.args._plan.now
