use Rattle.task_laws.proofs.WrittenOutEffects as written
use Rattle.task_laws.proofs.no_quantifier_is_left.Goals as goal

pub returns : goal.returns
returns c = written.no_quantifier_is_left
