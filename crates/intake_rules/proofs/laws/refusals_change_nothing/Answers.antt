use Rattle.intake_rules.proofs.Refused as lemmas
use Rattle.intake_rules.proofs.laws.refusals_change_nothing.Goals as goal

pub returns : goal.returns
returns c = lemmas.refusals_change_nothing
