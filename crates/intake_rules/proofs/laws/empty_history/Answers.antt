use Rattle.intake_rules.proofs.Lawful as lemmas
use Rattle.intake_rules.proofs.laws.empty_history.Goals as goal

pub returns : goal.returns
returns c = lemmas.empty_history
