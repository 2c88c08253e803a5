use Rattle.std.proofs.Common.{◌≡◌}
use Rattle.judge_bench.specs.Bookkeeping.{NoneWaitsAmong}
use Rattle.judge_bench.specs.Seats.{SitsAt}
use Rattle.judge_bench.proofs.owner.Owner.take_from.Given as goal

abbrev pub invariant-loop-slot : goal.invariant-loop-slot
invariant-loop-slot l = SitsAt l.bench l.self × (l.self.view ≡ l.initial.self.view) × (l.initial.self.view.seats_out ≡ 0 → NoneWaitsAmong l.from l.slot l.initial.self.view)
