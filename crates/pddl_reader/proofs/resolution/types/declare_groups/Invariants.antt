use Rattle.std.proofs.Common.{◌≡◌, drop}
use Rattle.pddl_syntax.specs.Forms.{name_groups}
use Rattle.pddl_reader.specs.TypeOrder.{group_declared}
use Rattle.pddl_syntax.specs.Optional.{through}
use Rattle.pddl_reader.proofs.resolution.types.declare_groups.Given as goal

abbrev pub invariant-groups : goal.invariant-groups
invariant-groups l =
    through (group_declared l.dialect) l.tables (name_groups (drop l.group-index l.groups))
    ≡ through (group_declared l.dialect) l.fn.tables (name_groups l.groups)
