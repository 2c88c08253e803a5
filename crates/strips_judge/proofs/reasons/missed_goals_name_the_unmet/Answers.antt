use Rattle.strips_judge.proofs.ReasonLaws as reasons
use Rattle.strips_judge.proofs.reasons.missed_goals_name_the_unmet.Goals as goal

pub returns : goal.returns
returns c = reasons.missed_goals_name_the_unmet c.args._task.now c.args._plan.now
