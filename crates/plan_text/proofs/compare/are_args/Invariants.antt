use Rattle.std.proofs.Common.{◌≡◌, map, drop}
use Rattle.std.specs.Cmp.Lexicographic.{pointwise}
use Rattle.std.specs.Str.{bytes_eq}
use Rattle.pddl_words.specs.Words.{folded}
use Rattle.strips_task.specs.StepView.{step_shown}
use Rattle.plan_text.proofs.compare.are_args.Given as goal

-- the arguments are those of the words where the others are
abbrev pub invariant-loop-index : goal.invariant-loop-index
invariant-loop-index l =
    pointwise bytes_eq (drop l.index (step_shown l.step).args) (map folded l.words) ≡ pointwise bytes_eq (step_shown l.fn.step).args (map folded l.fn.words)
