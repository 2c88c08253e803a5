use Rattle.std.proofs.Common.{◌≡◌, drop}
use Rattle.std.specs.List.{list_any}
use Rattle.pddl_syntax.specs.Forms.{name_groups}
use Rattle.pddl_reader.specs.TypeCycles.{declares_cycle}
use Rattle.pddl_reader.proofs.resolution.types.first_under_itself.Given as goal

abbrev pub invariant-groups : goal.invariant-groups
invariant-groups l =
    list_any (declares_cycle l.dialect l.names l.parents) (name_groups (drop l.group-index l.groups))
    ≡ list_any (declares_cycle l.dialect l.names l.parents) (name_groups l.groups)
