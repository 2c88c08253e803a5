use Rattle.formulas.proofs.GroundedMeaning.{grounded_names}
use Rattle.formulas.proofs.laws.grounded_names_no_parameter.Goals as goal

pub returns : goal.returns
returns c = grounded_names
