use Rattle.formulas.proofs.Parts.{some_part}
use Rattle.formulas.proofs.laws.or_means_one.Goals as goal

pub returns : goal.returns
returns c = some_part
