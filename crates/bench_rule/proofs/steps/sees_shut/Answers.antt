use Rattle.std.proofs.Common.{rules, arith}
use Rattle.bench_rule.proofs.Seats.{look_at_shut_allowed}
use Rattle.bench_rule.proofs.steps.sees_shut.Goals as goal

pub load-requires : goal.load-requires
load-requires c = (search rules, omega arith, look_at_shut_allowed _ _ _ _)
