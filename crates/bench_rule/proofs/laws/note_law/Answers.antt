use Rattle.bench_rule.proofs.Events as lemmas
use Rattle.bench_rule.proofs.laws.note_law.Goals as goal

pub returns : goal.returns
returns c = lemmas.note_law
