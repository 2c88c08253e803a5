use Rattle.bench_rule.proofs.Meanings as lemmas
use Rattle.bench_rule.proofs.laws.held_by_one.Goals as goal

pub returns : goal.returns
returns c = lemmas.held_by_one
