use Rattle.std.proofs.Common.{◌≡◌, take}
use Rattle.strips_task.specs.StepView.{step_shown}
use Rattle.strips_judge.specs.Step.{objects_named}
use Rattle.plan_cost.proofs.objects.find_objects.Given as goal

abbrev pub invariant-loop-index : goal.invariant-loop-index
invariant-loop-index l = l.objects.items ≡ objects_named l.task (take l.index (step_shown l.step).args)
