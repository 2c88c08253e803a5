use Rattle.intake_rules.proofs.Refused as lemmas
use Rattle.intake_rules.proofs.laws.plans_after_close_are_refused.Goals as goal

pub returns : goal.returns
returns c = lemmas.refused_after_close
