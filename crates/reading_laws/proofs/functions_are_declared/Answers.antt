use Rattle.reading_laws.proofs.DeclaredTables.{functions_declared}
use Rattle.reading_laws.proofs.functions_are_declared.Goals as goal

pub returns : goal.returns
returns c = functions_declared
