use Rattle.std.proofs.Common.{◌≡◌, ◌∙◌, sym, Some}
use Rattle.strips_task.specs.Names.{number_named}
use Rattle.pddl_reader.proofs.TypeLemmas.{parent_named}
use Rattle.pddl_reader.proofs.resolution.types.parent_name.Goals as goal

pub returns-in-Some : goal.returns-in-Some
returns-in-Some c =
    let named : number_named c.args.parents.now c.args.name.now ≡ Some c.in-Some.number = rw (← c.as_bytes.ensures.bytes) (sym c.in-Some.ensures.number) in
    c.as_bytes-in-Some.ensures.bytes ∙ sym (parent_named c.args.parents.now c.args.name.now _ _ c.in-Some.number named c.get.ensures)
