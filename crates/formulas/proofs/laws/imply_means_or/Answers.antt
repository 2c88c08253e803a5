use Rattle.formulas.proofs.Connectives.{imply_means}
use Rattle.formulas.proofs.laws.imply_means_or.Goals as goal

pub returns : goal.returns
returns c = imply_means
