use Rattle.formulas.proofs.GroundedMeaning.{grounded_means}
use Rattle.formulas.proofs.laws.grounded_means_the_same.Goals as goal

pub returns : goal.returns
returns c = grounded_means
