use Rattle.task_laws.proofs.Implications as implications
use Rattle.task_laws.proofs.no_imply_is_left.Goals as goal

pub returns : goal.returns
returns c = implications.no_imply_is_left
