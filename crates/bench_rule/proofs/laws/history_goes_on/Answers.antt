use Rattle.bench_rule.proofs.Events as lemmas
use Rattle.bench_rule.proofs.laws.history_goes_on.Goals as goal

pub returns : goal.returns
returns c = lemmas.history_goes_on
