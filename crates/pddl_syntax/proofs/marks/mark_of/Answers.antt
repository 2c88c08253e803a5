use Rattle.std.proofs.Common.{ap, sym}
use Rattle.pddl_syntax.specs.Marks.{mark_of}
use Rattle.pddl_syntax.proofs.MarkTable.{mark_in_table}
use Rattle.pddl_syntax.proofs.marks.mark_of.Goals as goal

pub returns-in-40 : goal.returns-in-40
unfolding mark_of
returns-in-40 c = ap mark_of (sym c.in-40.is)

pub returns-in-41 : goal.returns-in-41
unfolding mark_of
returns-in-41 c = ap mark_of (sym c.in-41.is)

pub returns-in_default : goal.returns-in_default
returns-in_default c = mark_in_table c.args.b _ c.ranges.b.fits
