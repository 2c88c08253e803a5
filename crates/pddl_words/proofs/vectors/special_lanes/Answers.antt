use Rattle.pddl_words.proofs.SpecialLanes.{special_mask}
use Rattle.pddl_words.proofs.vectors.special_lanes.Goals as goal

pub returns : goal.returns
returns c = special_mask c.args.bytes c.fits-bytes.0 c.fits-bytes.1
