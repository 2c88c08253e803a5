use Rattle.formulas.proofs.Connectives.{no_objects}
use Rattle.formulas.proofs.laws.no_objects_decide.Goals as goal

pub returns : goal.returns
returns c = no_objects
