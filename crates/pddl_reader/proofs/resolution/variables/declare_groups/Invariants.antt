use Rattle.std.proofs.Common.{◌≡◌, drop}
use Rattle.std.specs.Map.{keys_of}
use Rattle.pddl_syntax.specs.Forms.{variable_groups}
use Rattle.pddl_syntax.specs.Optional.{through}
use Rattle.pddl_reader.specs.Resolved.{variables_form}
use Rattle.pddl_reader.specs.Variables.{group_named}
use Rattle.pddl_reader.proofs.resolution.variables.declare_groups.Given as goal

abbrev pub invariant-groups : goal.invariant-groups
invariant-groups l =
    through (group_named (keys_of l.types)) (variables_form l.declared) (variable_groups (drop l.group-index l.groups))
    ≡ through (group_named (keys_of l.types)) (variables_form l.fn.declared) (variable_groups l.groups)
