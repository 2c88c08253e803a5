use Rattle.std.proofs.Common.{◌≡◌, Some, subst}
use Rattle.std.specs.Map.{keys_of}
use Rattle.pddl_syntax.specs.Forms.{name_groups}
use Rattle.pddl_reader.specs.Objects.{Objects, objects_from}
use Rattle.pddl_reader.proofs.DomainMeaning.{head_meant}
use Rattle.pddl_reader.proofs.resolution.domain.resolve_head.Goals as goal

pub returns : goal.returns
returns c =
    let known = c.in_ok-known.known in
    let P : Objects → Type 0 = λ o. objects_from (keys_of known.names) o (name_groups c.part_items-constants.result.now) ≡ Some c.in_ok-objects.objects in
    let constants = subst P c.new-none.ensures c.in_ok-objects.ensures in
    rw c.in_ok-name.ensures
    (head_meant c.args.dialect c.args.syntax.now known c.in_ok-objects.objects (rw (← c.part_items.ensures) c.in_ok-known.ensures.given) (rw (← c.part_items-constants.ensures) constants))
