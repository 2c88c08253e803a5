use Rattle.pddl_reader.proofs.TypeTests.{no_cycle}
use Rattle.pddl_reader.proofs.laws.type_trees_have_no_cycles.Goals as goal

pub returns : goal.returns
returns c = no_cycle
