use Rattle.intake_rules.proofs.InOrder as lemmas
use Rattle.intake_rules.proofs.laws.complete_is_whole.Goals as goal

pub returns : goal.returns
returns c = λ planners slots task history lawful right. lemmas.complete_is_whole planners slots history lawful task right
