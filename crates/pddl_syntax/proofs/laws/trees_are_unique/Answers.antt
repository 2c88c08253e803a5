use Rattle.pddl_syntax.proofs.Spelling.{trees_unique}
use Rattle.pddl_syntax.proofs.laws.trees_are_unique.Goals as goal

pub returns : goal.returns
returns c = trees_unique
