use Rattle.std.proofs.Common.{ℕ, IsTrue, take}
use Rattle.std.specs.List.{list_all}
use Rattle.strips_judge.specs.Statics.{IsUnmarked, is_of_another}
use Rattle.strips_judge.proofs.task_index.mark_patterns.Given as goal

abbrev pub invariant-loop-pattern : goal.invariant-loop-pattern
invariant-loop-pattern l = (pred : ℕ) → IsUnmarked l.marks.items pred → IsUnmarked l.fn.marks.items pred × IsTrue (list_all (is_of_another pred) (take l.pattern-index l.patterns))
