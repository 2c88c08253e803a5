use Rattle.std.proofs.Common.{ap, ◌∙◌, add-one, arith}
use Rattle.std.proofs.lemmas.Bool.{ne_eqb}
use Rattle.bench_rule.specs.Views.{one_if, times_among}
use Rattle.judge_bench.proofs.Cursors.{times_among-next}
use Rattle.judge_bench.proofs.owner.first_of.Goals as goal

pub loop-slot-preserved : goal.loop-slot-preserved
loop-slot-preserved c =
    let next = times_among-next c.args.planners.now c.args.planner c.loop-slot.slot (omega arith) in
    let other = ap one_if (ne_eqb _ _ c.if-planners-slot.false) in
    ap (times_among c.args.planners.now c.args.planner) (add-one c.loop-slot.slot) ∙ omega (arith, next, other, c.loop-slot.invariant)
