use Rattle.bench_rule.proofs.Meanings as lemmas
use Rattle.bench_rule.proofs.laws.owner_knows_all.Goals as goal

pub returns : goal.returns
returns c = lemmas.owner_knows_all
