use Rattle.formulas.proofs.Connectives.{no_variables}
use Rattle.formulas.proofs.laws.no_variables_mean_the_body.Goals as goal

pub returns : goal.returns
returns c = no_variables
