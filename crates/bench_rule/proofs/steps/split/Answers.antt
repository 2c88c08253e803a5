use Rattle.std.proofs.Common.{rules, arith}
use Rattle.bench_rule.proofs.Seats.{split_allowed}
use Rattle.bench_rule.proofs.steps.split.Goals as goal

pub split_seat-requires : goal.split_seat-requires
split_seat-requires c = (search rules, omega arith, split_allowed _ _ _ c.requires.1)
