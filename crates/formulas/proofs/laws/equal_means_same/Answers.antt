use Rattle.formulas.specs.EqualityLaws.{tree_decides}
use Rattle.formulas.proofs.laws.equal_means_same.Goals as goal

pub returns : goal.returns
returns c = λ tree other. tree_decides tree other
