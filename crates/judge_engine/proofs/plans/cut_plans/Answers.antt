use Rattle.std.proofs.Common.{arith}
use Rattle.judge_engine.proofs.Fronts.{all_of_them, one_more, too_many}
use Rattle.judge_engine.proofs.plans.cut_plans.Goals as goal

pub returns-then-not-branch : goal.returns-then-not-branch
returns-then-not-branch c =
    let past = rw c.if-not-branch.true at c.in_ok-push_parts.ensures.plans in
    too_many c.args.bundles.now c.loop-planner.planner c.loop-planner.cuts.items c.loop-planner.invariant (omega (arith, c.loop-planner-test.true)) past

pub loop-planner-preserved : goal.loop-planner-preserved
loop-planner-preserved c =
    let fits = rw c.if-not-branch.false at c.in_ok-push_parts.ensures.plans in
    one_more c.args.bundles.now c.loop-planner.planner c.loop-planner.cuts.items c.loop-planner.invariant _ (omega (arith, c.loop-planner-test.true))
    c.in_ok-push_parts.ensures.within fits.0 fits.1

pub returns : goal.returns
returns c = all_of_them c.args.bundles.now c.loop-planner.planner c.loop-planner.cuts.items c.loop-planner.invariant (omega (arith, c.loop-planner-test.false))
