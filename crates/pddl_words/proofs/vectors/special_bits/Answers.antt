use Rattle.pddl_words.proofs.SpecialLanes.{special_bit, special_within}
use Rattle.pddl_words.proofs.vectors.special_bits.Goals as goal

pub returns-clause-bits : goal.returns-clause-bits
returns-clause-bits c = λ k lt. special_bit c.args.bytes.now c.special_lanes.result k c.requires c.special_lanes.ensures lt

pub returns-clause-within : goal.returns-clause-within
returns-clause-within c = λ k set. special_within c.args.bytes.now c.special_lanes.result k c.requires c.special_lanes.ensures set
