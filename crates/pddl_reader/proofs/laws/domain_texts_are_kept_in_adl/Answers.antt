use Rattle.pddl_reader.proofs.DialectTexts.{domain_kept_in_adl}
use Rattle.pddl_reader.proofs.laws.domain_texts_are_kept_in_adl.Goals as goal

pub returns : goal.returns
returns c = domain_kept_in_adl
