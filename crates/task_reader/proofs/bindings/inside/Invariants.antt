use Rattle.std.proofs.Common.{◌≡◌, ◌≤◌, drop}
use Rattle.task_reader.specs.Bindings.{choices_for, times}
use Rattle.task_reader.specs.Capped.{capped}
use Rattle.task_reader.proofs.bindings.inside.Given as goal

abbrev pub invariant-loop-group : goal.invariant-loop-group
invariant-loop-group l = record {
  rest : capped (times l.product (choices_for l.counts.tally.task.now (drop l.group-index l.groups))) ≡ capped (times l.around (choices_for l.counts.tally.task.now l.groups));
  bound : l.product ≤ 16777217;
}
