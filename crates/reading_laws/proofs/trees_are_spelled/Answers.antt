use Rattle.reading_laws.proofs.TextTrees.{trees_spelled}
use Rattle.reading_laws.proofs.trees_are_spelled.Goals as goal

pub returns : goal.returns
returns c = trees_spelled
