use Rattle.std.proofs.Common.{◌≡◌, drop}
use Rattle.std.specs.Map.{keys_of}
use Rattle.pddl_syntax.specs.Forms.{name_groups}
use Rattle.pddl_reader.specs.Objects.{objects_grouped}
use Rattle.pddl_syntax.specs.Optional.{through}
use Rattle.pddl_reader.proofs.resolution.objects.declare_groups.Given as goal

abbrev pub invariant-groups : goal.invariant-groups
invariant-groups l =
    through (objects_grouped (keys_of l.types)) l.objects (name_groups (drop l.group-index l.groups))
    ≡ through (objects_grouped (keys_of l.types)) l.fn.objects (name_groups l.groups)
