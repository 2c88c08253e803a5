use Rattle.pddl_syntax.proofs.DialectLaws.{problems_kept}
use Rattle.pddl_syntax.proofs.laws.problems_are_kept.Goals as goal

pub returns : goal.returns
returns c = problems_kept
