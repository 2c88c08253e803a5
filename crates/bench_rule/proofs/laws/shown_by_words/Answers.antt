use Rattle.bench_rule.proofs.SameShown as lemmas
use Rattle.bench_rule.proofs.laws.shown_by_words.Goals as goal

pub returns : goal.returns
returns c = λ setting bench other sound. lemmas.shown_by_words setting bench sound other
