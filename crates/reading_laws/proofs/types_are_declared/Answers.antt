use Rattle.reading_laws.proofs.ParentNumbers.{types_declared_so}
use Rattle.reading_laws.proofs.types_are_declared.Goals as goal

pub returns : goal.returns
returns c = types_declared_so
