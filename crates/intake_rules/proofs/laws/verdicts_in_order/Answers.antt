use Rattle.intake_rules.proofs.InOrder as lemmas
use Rattle.intake_rules.proofs.laws.verdicts_in_order.Goals as goal

pub returns : goal.returns
returns c = lemmas.verdicts_in_order
