use Rattle.pddl_words.proofs.NameLanes.{stops_mask}
use Rattle.pddl_words.proofs.vectors.stops.Goals as goal

pub returns : goal.returns
returns c = stops_mask c.args.before c.args.bytes c.fits-before.0 c.fits-bytes.0 c.fits-bytes.1
