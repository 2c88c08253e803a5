use Rattle.std.proofs.Common.{ℕ, IsTrue, take}
use Rattle.std.specs.List.{list_all}
use Rattle.std.specs.Map.{values_of}
use Rattle.strips_judge.specs.Statics.{IsUnmarked, action_spares}
use Rattle.strips_judge.proofs.task_index.TaskIndex.new.Given as goal

abbrev pub invariant-loop-number : goal.invariant-loop-number
invariant-loop-number l = (pred : ℕ) → IsUnmarked l.changed.items pred → IsTrue (list_all (action_spares pred) (take l.number (values_of l.task.actions)))
