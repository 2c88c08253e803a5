use Rattle.intake_rules.proofs.Lawful as lemmas
use Rattle.intake_rules.proofs.laws.least_goes_on.Goals as goal

pub returns : goal.returns
returns c = lemmas.least_goes_on
