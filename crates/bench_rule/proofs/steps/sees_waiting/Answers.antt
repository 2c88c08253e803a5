use Rattle.std.proofs.Common.{rules, arith, refl, eqb-true}
use Rattle.bench_rule.proofs.Takes.{look_allowed}
use Rattle.bench_rule.proofs.steps.sees_waiting.Goals as goal

pub load-requires : goal.load-requires
load-requires c = (search rules, omega arith, look_allowed _ _ _ _ _)

pub returns-clause-waits : goal.returns-clause-waits
returns-clause-waits c = λ found. (c.load.ensures.2 c.args.slot refl).0 (eqb-true c.load.result 1 found)
