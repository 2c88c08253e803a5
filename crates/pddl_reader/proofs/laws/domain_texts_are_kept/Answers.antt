use Rattle.pddl_reader.proofs.DialectTexts.{domain_kept}
use Rattle.pddl_reader.proofs.laws.domain_texts_are_kept.Goals as goal

pub returns : goal.returns
returns c = domain_kept
