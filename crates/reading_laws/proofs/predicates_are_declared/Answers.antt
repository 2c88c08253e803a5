use Rattle.reading_laws.proofs.DeclaredTables.{predicates_declared}
use Rattle.reading_laws.proofs.predicates_are_declared.Goals as goal

pub returns : goal.returns
returns c = predicates_declared
