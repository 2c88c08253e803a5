use Rattle.std.proofs.Common.{◌<◌, length, sym, arith}
use Rattle.std.proofs.lemmas.Option.{get_or_from_slice_get}
use Rattle.strips_task.specs.StepView.{step_shown}
use Rattle.strips_judge.proofs.Bound.{unknown_here, bound_more}
use Rattle.strips_judge.proofs.arguments.find_objects.Goals as goal

pub returns-in-None-clause-unknown : goal.returns-in-None-clause-unknown
returns-in-None-clause-unknown c =
    let lt : c.loop-index.index < length (step_shown c.args.step).args = omega arith in
    sym (unknown_here c.args.task.now (step_shown c.args.step).args _ c.loop-index.index c.arg.result.now lt
    (sym (get_or_from_slice_get (step_shown c.args.step).args c.loop-index.index c.arg.result.now c.arg.result.now c.arg.ensures)) c.loop-index.invariant (sym c.in-None.ensures.number))

pub loop-index-preserved : goal.loop-index-preserved
loop-index-preserved c =
    let lt : c.loop-index.index < length (step_shown c.args.step).args = omega arith in
    bound_more c.args.task.now (step_shown c.args.step).args _ c.loop-index.index c.arg.result.now lt
    (sym (get_or_from_slice_get (step_shown c.args.step).args c.loop-index.index c.arg.result.now c.arg.result.now c.arg.ensures)) c.loop-index.invariant c.in-Some.object _ (sym c.in-Some.ensures.number) c.in-Some.ensures.within
    c.in_ok-push-in-Some.ensures.items
