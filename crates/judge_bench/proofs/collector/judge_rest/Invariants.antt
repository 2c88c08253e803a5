use Rattle.std.proofs.Common.{◌≡◌, ◌-◌, ℕ, List, length}
use Rattle.judge_bench.specs.Keeping.{with_more_finished}
use Rattle.judge_bench.specs.Seats.{SitsAt}
use Rattle.judge_bench.proofs.collector.judge_rest.Given as goal

-- So far some slots more are known to be finished.
abbrev pub invariant-loop-ticket : goal.invariant-loop-ticket
invariant-loop-ticket l = record {
  sits : SitsAt l.bench l.owner;
  task : l.bench.setting.task.value ≡ l.judge;
  view : (more : List ℕ) × (l.owner.view ≡ with_more_finished l.initial.owner.view more);
}

-- Each turn finishes a slot, of which there are so many.
abbrev pub decreases-loop-ticket : goal.decreases-loop-ticket
decreases-loop-ticket l = l.bench.setting.slots - length l.owner.view.finished
