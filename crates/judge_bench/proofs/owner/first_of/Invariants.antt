use Rattle.std.proofs.Common.{◌≡◌}
use Rattle.bench_rule.specs.Views.{times_among}
use Rattle.judge_bench.proofs.owner.first_of.Given as goal

abbrev pub invariant-loop-slot : goal.invariant-loop-slot
invariant-loop-slot l = times_among l.planners l.planner l.slot ≡ times_among l.planners l.planner l.from
