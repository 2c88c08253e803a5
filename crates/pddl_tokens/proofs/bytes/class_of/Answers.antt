use Rattle.pddl_tokens.proofs.Table.{class_in_table}
use Rattle.pddl_tokens.proofs.bytes.class_of.Goals as goal

pub returns : goal.returns
returns c = class_in_table c.args.b _ c.ranges.b.fits
