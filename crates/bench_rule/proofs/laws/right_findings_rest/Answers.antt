use Rattle.bench_rule.proofs.Meanings as lemmas
use Rattle.bench_rule.proofs.laws.right_findings_rest.Goals as goal

pub returns : goal.returns
returns c = lemmas.right_findings_rest
