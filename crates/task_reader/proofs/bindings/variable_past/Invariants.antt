use Rattle.std.proofs.Common.{◌≡◌, ◌+◌, ◌≤◌, ◌<◌, ◌^◌, drop}
use Rattle.task_reader.specs.Bindings.{choices_for, first_past, in_64_bits}
use Rattle.task_reader.proofs.bindings.variable_past.Given as goal

abbrev pub invariant-loop-group : goal.invariant-loop-group
invariant-loop-group l = record {
  rest : in_64_bits (l.index + first_past l.counted l.product (choices_for l.counts.tally.task.now (drop l.group-index l.groups)))
      ≡ in_64_bits (l.first + first_past l.counted l.around (choices_for l.counts.tally.task.now l.groups));
  fits : l.index < 2 ^ 64;
  bound : l.product ≤ 16777217;
}
