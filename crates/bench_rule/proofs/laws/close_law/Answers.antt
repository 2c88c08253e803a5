use Rattle.bench_rule.proofs.Events as lemmas
use Rattle.bench_rule.proofs.laws.close_law.Goals as goal

pub returns : goal.returns
returns c = lemmas.close_law
