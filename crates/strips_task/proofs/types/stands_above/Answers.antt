use Rattle.std.proofs.Common.{◌+◌, ◌-◌, length, ◌∙◌, sym, arith}
use Rattle.strips_task.proofs.TypeWalks.{walk_goes_on, walk_finds, within_none}
use Rattle.strips_task.proofs.types.stands_above.Goals as goal

pub returns-then-at-sup : goal.returns-then-at-sup
returns-then-at-sup c =
    sym (c.up.invariant
    ∙ walk_finds c.args.parents.now (length c.args.parents.now - (c.up.counter + 1)) (length c.args.parents.now - c.up.counter) c.up.at c.args.sup
    (omega arith) c.if-at-sup.true)

pub up-preserved : goal.up-preserved
up-preserved c =
    c.up.invariant
    ∙ walk_goes_on c.args.parents.now (length c.args.parents.now - (c.up.counter + 1)) (length c.args.parents.now - c.up.counter) c.up.at
    c.parent_of-at.result c.args.sup (omega arith) c.if-at-sup.false c.parent_of-at.ensures

pub returns : goal.returns
returns c =
    sym (c.up.invariant ∙ within_none c.args.parents.now (length c.args.parents.now - c.up.counter) c.up.at c.args.sup (omega arith))
