use Rattle.bench_rule.proofs.Events as lemmas
use Rattle.bench_rule.proofs.laws.split_law.Goals as goal

pub returns : goal.returns
returns c = lemmas.split_law
