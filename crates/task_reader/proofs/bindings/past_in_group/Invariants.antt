use Rattle.std.proofs.Common.{◌≡◌, ◌+◌, ◌-◌, ◌≤◌}
use Rattle.std.specs.Option.{option_map}
use Rattle.task_reader.specs.Capped.{past_in_group}
use Rattle.task_reader.proofs.bindings.past_in_group.Given as goal

abbrev pub invariant-loop-index : goal.invariant-loop-index
invariant-loop-index l = record {
  rest : option_map (λ index. l.index + index) (past_in_group l.counted l.power l.count (l.variables - l.index)) ≡ past_in_group l.counted l.fn.product l.count l.variables;
  bound : l.power ≤ 16777217;
}
