use Rattle.std.proofs.Common.{◌<◌, ◌∙◌, arith, length, sym}
use Rattle.strips_task.specs.Types.{is_below, is_within}
use Rattle.strips_task.proofs.TypeTrees.{below_itself}
use Rattle.strips_task.proofs.types.is_below.Goals as goal

pub returns-then-not-is_empty : goal.returns-then-not-is_empty
unfolding is_below
returns-then-not-is_empty c =
    let used : 0 < length c.args.table.now = grind (arith, c.if-not-is_empty.ensures, c.if-not-is_empty.true) in
    c.has_bit.ensures
    ∙ (c.requires used).marks c.from-sub.result c.from-sup.result c.if-sub-parents.true c.if-sup-parents.true
    ∙ (λ j. is_within c.args.parents.now (length c.args.parents.now) (c.from-sub.ensures j) (c.from-sup.ensures j))

pub returns-else-sub-parents : goal.returns-else-sub-parents
unfolding is_below
returns-else-sub-parents c =
    c.stands_above.ensures
    ∙ (λ j. is_within c.args.parents.now (length c.args.parents.now) (c.from-sub.ensures j) (c.from-sup.ensures j))

pub returns-then-sub-sup : goal.returns-then-sub-sup
unfolding is_below
returns-then-sub-sup c = sym (below_itself c.args.parents.now (length c.args.parents.now) c.args.sub c.args.sup c.if-sub-sup.true)
