use Rattle.intake_rules.proofs.OneHistory as lemmas
use Rattle.intake_rules.proofs.laws.one_history_of_events.Goals as goal

pub returns : goal.returns
returns c = lemmas.one_history
