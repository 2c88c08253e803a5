use Rattle.judge_bench.specs.Seats.{SitsAt}
use Rattle.bench_tests.proofs.benches.submit_all.Given as goal

abbrev pub invariant-loop-number : goal.invariant-loop-number
invariant-loop-number l = SitsAt l.bench l.owner
