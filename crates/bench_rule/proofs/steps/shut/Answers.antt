use Rattle.std.proofs.Common.{rules, arith}
use Rattle.bench_rule.proofs.Seats.{shut_allowed}
use Rattle.bench_rule.proofs.steps.shut.Goals as goal

pub store-requires : goal.store-requires
store-requires c = (search rules, omega arith, shut_allowed _ _ _ _ c.requires.1)
