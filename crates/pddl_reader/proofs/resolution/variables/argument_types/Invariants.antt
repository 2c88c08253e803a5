use Rattle.std.proofs.Common.{◌≡◌, ◌≤◌, [], drop, length}
use Rattle.std.specs.Map.{keys_of}
use Rattle.pddl_syntax.specs.Forms.{variable_groups}
use Rattle.pddl_syntax.specs.Optional.{through}
use Rattle.pddl_reader.specs.Variables.{with_group_types}
use Rattle.pddl_reader.proofs.resolution.variables.argument_types.Given as goal

abbrev pub invariant-groups : goal.invariant-groups
invariant-groups l = record {
  room : length l.argument_types ≤ 32;
  so_far : through (with_group_types (keys_of l.types)) l.argument_types (variable_groups (drop l.group-index l.groups))
      ≡ through (with_group_types (keys_of l.types)) [] (variable_groups l.groups);
}
