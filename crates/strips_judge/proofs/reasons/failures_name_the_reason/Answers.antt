use Rattle.strips_judge.proofs.ReasonLaws as reasons
use Rattle.strips_judge.proofs.reasons.failures_name_the_reason.Goals as goal

pub returns : goal.returns
returns c = reasons.failures_name_the_reason c.args._task.now c.args._plan.now
