use Rattle.std.proofs.Common.{◌≡◌, ◌+◌, ◌<◌, ◌^◌, length, drop}
use Rattle.formulas.specs.Variables.{variable_types}
use Rattle.task_reader.specs.Bindings.{in_64_bits}
use Rattle.task_reader.proofs.bindings.variables_with.Given as goal

abbrev pub invariant-loop-group : goal.invariant-loop-group
invariant-loop-group l = record {
  rest : in_64_bits (l.variables + length (variable_types (drop l.group-index l.groups))) ≡ in_64_bits (l.before + length (variable_types l.groups));
  bound : l.variables < 2 ^ 64;
}
