use Rattle.std.proofs.Common.{◌≡◌, drop}
use Rattle.std.specs.Cmp.Lexicographic.{pointwise}
use Rattle.strips_task.specs.Steps.{step_eq}
use Rattle.strips_task.proofs.equality.have_same_steps.Given as goal

-- What is left decides.
abbrev pub invariant-loop-index : goal.invariant-loop-index
invariant-loop-index l = pointwise step_eq l.first l.second ≡ pointwise step_eq (drop l.index l.first) (drop l.index l.second)
