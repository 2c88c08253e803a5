use Rattle.pddl_words.proofs.NameTable.{name_byte_in_table}
use Rattle.pddl_words.proofs.is_name_byte.Goals as goal

pub returns : goal.returns
returns c = name_byte_in_table c.args.b _ c.ranges.b.fits
