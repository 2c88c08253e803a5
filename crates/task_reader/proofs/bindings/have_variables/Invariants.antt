use Rattle.std.proofs.Common.{◌≡◌, drop}
use Rattle.formulas.specs.Variables.{variable_types}
use Rattle.task_reader.proofs.bindings.have_variables.Given as goal

abbrev pub invariant-loop-group : goal.invariant-loop-group
invariant-loop-group l = variable_types (drop l.group-index l.groups) ≡ variable_types l.groups
