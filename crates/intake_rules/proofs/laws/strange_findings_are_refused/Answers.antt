use Rattle.intake_rules.proofs.Refused as lemmas
use Rattle.intake_rules.proofs.laws.strange_findings_are_refused.Goals as goal

pub returns : goal.returns
returns c = lemmas.refused_strange
