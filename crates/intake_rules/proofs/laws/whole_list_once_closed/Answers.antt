use Rattle.intake_rules.proofs.InOrder as lemmas
use Rattle.intake_rules.proofs.laws.whole_list_once_closed.Goals as goal

pub returns : goal.returns
returns c = lemmas.whole_list_once_closed
