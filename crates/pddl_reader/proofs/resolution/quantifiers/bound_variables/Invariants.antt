use Rattle.std.proofs.Common.{◌≡◌, drop}
use Rattle.std.specs.Map.{keys_of}
use Rattle.pddl_syntax.specs.Forms.{variable_groups}
use Rattle.pddl_syntax.specs.Optional.{through}
use Rattle.pddl_reader.specs.Resolved.{bound_form}
use Rattle.pddl_reader.specs.Scopes.{group_bound, none_bound}
use Rattle.pddl_reader.proofs.resolution.quantifiers.bound_variables.Given as goal

abbrev pub invariant-groups : goal.invariant-groups
invariant-groups l =
    through (group_bound (keys_of l.types)) (bound_form l.bound) (variable_groups (drop l.group-index l.groups))
    ≡ through (group_bound (keys_of l.types)) none_bound (variable_groups l.groups)
