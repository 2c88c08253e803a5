use Rattle.pddl_reader.proofs.TypeTests.{tree_from, tree_tested}
use Rattle.pddl_reader.proofs.laws.type_trees_are_tested.Goals as goal

pub returns : goal.returns
returns c = λ parents. (tree_from parents, tree_tested parents)
