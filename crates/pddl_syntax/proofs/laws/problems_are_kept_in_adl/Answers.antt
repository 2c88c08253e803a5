use Rattle.pddl_syntax.proofs.DialectLaws.{problems_kept_in_adl}
use Rattle.pddl_syntax.proofs.laws.problems_are_kept_in_adl.Goals as goal

pub returns : goal.returns
returns c = problems_kept_in_adl
