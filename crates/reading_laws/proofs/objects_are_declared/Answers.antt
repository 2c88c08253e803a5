use Rattle.reading_laws.proofs.DeclaredObjects.{objects_declared}
use Rattle.reading_laws.proofs.objects_are_declared.Goals as goal

pub returns : goal.returns
returns c = objects_declared
