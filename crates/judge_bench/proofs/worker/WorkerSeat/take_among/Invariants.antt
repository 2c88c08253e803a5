use Rattle.std.proofs.Common.{◌≡◌, ◌-◌}
use Rattle.std.specs.List.{range_with_len}
use Rattle.judge_bench.specs.Seats.{SitsAt, with_misses}
use Rattle.judge_bench.proofs.worker.WorkerSeat.take_among.Given as goal

abbrev pub invariant-loop-slot : goal.invariant-loop-slot
invariant-loop-slot l = SitsAt l.bench l.self × (l.self.view ≡ with_misses l.initial.self.view (range_with_len l.from (l.slot - l.from)))
