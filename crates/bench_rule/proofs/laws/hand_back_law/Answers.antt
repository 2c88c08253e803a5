use Rattle.bench_rule.proofs.Events as lemmas
use Rattle.bench_rule.proofs.laws.hand_back_law.Goals as goal

pub returns : goal.returns
returns c = lemmas.hand_back_law
