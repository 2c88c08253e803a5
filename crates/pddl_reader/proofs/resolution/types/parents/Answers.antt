use Rattle.std.proofs.Common.{◌∙◌, sym}
use Rattle.pddl_reader.proofs.TypeLemmas.{parents_start, parents_item}
use Rattle.pddl_reader.proofs.resolution.types.parents.Goals as goal

pub types-init : goal.types-init
types-init c = rw c.new-parents.ensures (parents_start c.args.tables.now)

pub types-preserved : goal.types-preserved
types-preserved c =
    rw (c.in_ok-push.ensures.ok, c.parent_number.ensures)
    (sym (parents_item c.args.tables.now c.types.parents c.types.number _ _ c.get.ensures) ∙ c.types.invariant)
