use Rattle.strips_task.specs.StepView.{step_shown}
use Rattle.strips_judge.proofs.Bound.{Bound}
use Rattle.strips_judge.proofs.arguments.find_objects.Given as goal

abbrev pub invariant-loop-index : goal.invariant-loop-index
invariant-loop-index l = Bound l.task (step_shown l.step).args l.objects.items l.index
