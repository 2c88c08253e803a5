use Rattle.std.proofs.Common.{rules, arith}
use Rattle.bench_rule.proofs.Seats.{join_allowed}
use Rattle.bench_rule.proofs.steps.join.Goals as goal

pub join_seat-requires : goal.join_seat-requires
join_seat-requires c = (search rules, search rules, search rules, omega arith, join_allowed _ _ _ _ _ c.requires.owner.1 c.requires.worker.1 c.requires.worker.2)
