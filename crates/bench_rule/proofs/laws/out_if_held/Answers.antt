use Rattle.bench_rule.proofs.Meanings as lemmas
use Rattle.bench_rule.proofs.laws.out_if_held.Goals as goal

pub returns : goal.returns
returns c = lemmas.out_if_held
