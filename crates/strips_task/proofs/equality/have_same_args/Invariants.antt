use Rattle.std.proofs.Common.{◌≡◌, drop}
use Rattle.std.specs.Cmp.Lexicographic.{pointwise}
use Rattle.std.specs.Str.{bytes_eq}
use Rattle.strips_task.specs.StepView.{step_shown}
use Rattle.strips_task.proofs.equality.have_same_args.Given as goal

-- What is left decides.
abbrev pub invariant-loop-index : goal.invariant-loop-index
invariant-loop-index l = pointwise bytes_eq (step_shown l.first).args (step_shown l.second).args ≡ pointwise bytes_eq (drop l.index (step_shown l.first).args) (drop l.index (step_shown l.second).args)
