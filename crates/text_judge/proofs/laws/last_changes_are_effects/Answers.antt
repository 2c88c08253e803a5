use Rattle.text_judge.proofs.Histories.{are_effects}
use Rattle.text_judge.proofs.laws.last_changes_are_effects.Goals as goal

pub returns : goal.returns
returns c = are_effects c.args._task.now.task
