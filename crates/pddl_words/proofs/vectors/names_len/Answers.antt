use Rattle.pddl_words.proofs.NameLanes.{goes_on_to}
use Rattle.pddl_words.proofs.vectors.names_len.Goals as goal

pub returns : goal.returns
returns c = goes_on_to c.args.list.now c.stops.result c.requires c.stops.ensures
