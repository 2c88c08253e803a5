use Rattle.std.proofs.Common.{rules, arith}
use Rattle.bench_rule.proofs.Seats.{close_allowed}
use Rattle.bench_rule.proofs.steps.close_as.Goals as goal

pub load-requires : goal.load-requires
load-requires g c = (search rules, omega arith, close_allowed _ _ _ _ _ c.requires.1)
