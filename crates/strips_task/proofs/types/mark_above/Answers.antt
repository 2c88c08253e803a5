use Rattle.std.proofs.Common.{◌+◌, ◌-◌, length, ◌∙◌, arith}
use Rattle.strips_task.proofs.TypeWalks.{unmarked, mark_goes_on, mark_ends}
use Rattle.strips_task.proofs.types.mark_above.Goals as goal

pub up-preserved : goal.up-preserved
up-preserved c = record {
  known = omega (arith, c.requires.parents_known c.up.at 0);
  marked = λ sup.
      mark_goes_on c.args.parents.now c.up.table c.set_bit.new.words c.args.number (length c.args.parents.now - (c.up.counter + 1))
      (length c.args.parents.now - c.up.counter) c.up.at c.from-at.result sup c.set_bit.ensures.changed (omega arith) c.from-at.ensures
      ∙ c.up.invariant.marked sup;
  others = λ sub sup few apart.
      unmarked c.up.table c.set_bit.new.words c.args.number c.up.at sub sup c.set_bit.ensures.changed (omega arith) few apart
      ∙ c.up.invariant.others sub sup few apart;
}

pub returns-clause-marked : goal.returns-clause-marked
returns-clause-marked c =
    λ sup.
    mark_ends c.args.parents.now c.up.table c.set_bit-2.new.words c.args.number (length c.args.parents.now - c.up.counter) c.up.at sup
    c.set_bit-2.ensures.changed (omega arith)
    ∙ c.up.invariant.marked sup
