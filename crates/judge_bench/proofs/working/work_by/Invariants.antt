use Rattle.std.proofs.Common.{◌≡◌, ◌≤◌, ◌+◌, ◌-◌, length, true}
use Rattle.judge_bench.specs.Seats.{SitsAt}
use Rattle.judge_bench.proofs.WorkDone.{WorkedSoFar}
use Rattle.judge_bench.proofs.working.work_by.Given as goal

-- So far the rounds without a job are counted, and the shut is noted where it was seen.
abbrev pub invariant-loop-rounds : goal.invariant-loop-rounds
invariant-loop-rounds g l = record {
  sits : SitsAt l.bench l.seat;
  task : l.bench.setting.task.value ≡ l.judge;
  so_far : WorkedSoFar l.bench.setting.slots l.rounds l.fn.seat.view l.seat.view;
  within : l.rounds ≤ l.idle;
  shut : l.shut ≡ true → l.seat.view.noted ≡ true;
}

-- A round finishes a slot, of which there are so many, or is one of the rounds without a job that are left.
abbrev pub decreases-loop-rounds : goal.decreases-loop-rounds
decreases-loop-rounds g l = (l.bench.setting.slots - length l.seat.view.finished) + (l.idle - l.rounds)
