use Rattle.intake_rules.proofs.Lawful as lemmas
use Rattle.intake_rules.proofs.laws.one_more.Goals as goal

pub returns : goal.returns
returns c = lemmas.one_more
