use Rattle.pddl_syntax.proofs.DialectLaws.{domains_kept}
use Rattle.pddl_syntax.proofs.laws.domains_are_kept.Goals as goal

pub returns : goal.returns
returns c = domains_kept
