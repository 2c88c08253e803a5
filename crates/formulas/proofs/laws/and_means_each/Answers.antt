use Rattle.formulas.proofs.Parts.{all_parts}
use Rattle.formulas.proofs.laws.and_means_each.Goals as goal

pub returns : goal.returns
returns c = all_parts
