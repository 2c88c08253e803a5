use Rattle.std.proofs.Common.{◌≡◌, length, vec_len}
use Rattle.std.specs.Vec.{vec_capacity}
use Rattle.judge_bench.specs.Keeping.{with_all_out}
use Rattle.judge_bench.specs.Seats.{SitsAt}
use Rattle.judge_bench.specs.Workers.{AllWorkAt}
use Rattle.judge_bench.proofs.crew.start_all.Given as goal

-- So far so many workers were started.
abbrev pub invariant-loop-number : goal.invariant-loop-number
invariant-loop-number g l = record {
  sits : SitsAt l.shared.bench.now l.owner;
  crew : AllWorkAt l.shared.bench.now l.shared.gate.now l.crew.items;
  count : vec_len l.crew ≡ l.number;
  length_is : length l.crew.items ≡ l.number;
  room : vec_capacity l.crew ≡ vec_capacity l.initial.crew;
  view : l.owner.view ≡ with_all_out l.initial.owner.view l.number;
}
