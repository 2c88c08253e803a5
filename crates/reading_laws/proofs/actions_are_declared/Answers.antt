use Rattle.reading_laws.proofs.DeclaredTables.{actions_declared}
use Rattle.reading_laws.proofs.actions_are_declared.Goals as goal

pub returns : goal.returns
returns c = actions_declared
