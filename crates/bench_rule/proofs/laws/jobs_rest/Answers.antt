use Rattle.bench_rule.proofs.Meanings as lemmas
use Rattle.bench_rule.proofs.laws.jobs_rest.Goals as goal

pub returns : goal.returns
returns c = lemmas.jobs_rest
