use Rattle.reading_laws.proofs.TreeOrCycle.{tree_or_cycle}
use Rattle.reading_laws.proofs.types_form_a_tree_or_a_cycle.Goals as goal

pub returns : goal.returns
returns c = tree_or_cycle
