use Rattle.std.proofs.Common.{List, Option, drop, take}
use Rattle.strips_task.specs.declared.steps.StepText.{StepText}
use Rattle.text_judge.specs.Judging.{HasTaken}
use Rattle.text_judge.specs.Passes.{with_next}
use Rattle.text_judge.specs.Watches.{AreWatched}
use Rattle.text_judge.proofs.history.note.Given as goal

-- The atoms so far are watched behind the steps that were taken by now, and those that are left behind those before.
abbrev pub invariant-loop-index : goal.invariant-loop-index
invariant-loop-index l = record {
  done : (steps : List StepText) (next : Option StepText) → HasTaken l.judge (with_next steps next) → AreWatched l.judge.task.task steps l.atoms l.fn.watches
      → AreWatched l.judge.task.task (with_next steps next) (take l.index l.atoms) (take l.index l.watches);
  left : (steps : List StepText) → AreWatched l.judge.task.task steps l.atoms l.fn.watches
      → AreWatched l.judge.task.task steps (drop l.index l.atoms) (drop l.index l.watches);
}
