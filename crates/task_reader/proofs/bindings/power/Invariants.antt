use Rattle.std.proofs.Common.{◌≡◌, ◌-◌, ◌≤◌}
use Rattle.task_reader.specs.Bindings.{times}
use Rattle.task_reader.specs.Capped.{capped, repeated}
use Rattle.task_reader.proofs.bindings.power.Given as goal

abbrev pub invariant-loop : goal.invariant-loop
invariant-loop l = record {
  rest : capped (times l.power (repeated (l.variables - l.counter) l.count)) ≡ capped (times l.fn.product (repeated l.variables l.count));
  bound : l.power ≤ 16777217;
}
