use Rattle.std.specs.Map.{values_of}
use Rattle.strips_judge.specs.Statics.{action_spares}
use Rattle.strips_judge.proofs.StaticLaws.{all_pass_more}
use Rattle.strips_judge.proofs.task_index.TaskIndex.new.Goals as goal

pub loop-number-preserved : goal.loop-number-preserved
loop-number-preserved c = λ pred unmarked.
    let found = c.mark_action.ensures pred unmarked in
    all_pass_more (action_spares pred) (values_of c.args.task.now.actions) c.loop-number.number c.action.result.now c.action.ensures.action (c.loop-number.invariant pred found.0) found.1
