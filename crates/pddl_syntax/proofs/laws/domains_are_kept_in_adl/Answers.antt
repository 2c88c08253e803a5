use Rattle.pddl_syntax.proofs.DialectLaws.{domains_kept_in_adl}
use Rattle.pddl_syntax.proofs.laws.domains_are_kept_in_adl.Goals as goal

pub returns : goal.returns
returns c = domains_kept_in_adl
