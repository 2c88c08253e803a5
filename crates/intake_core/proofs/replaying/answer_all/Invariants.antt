use Rattle.std.proofs.Common.{◌≡◌, ◌+◌, length, map}
use Rattle.intake_core.specs.Asked.{asked}
use Rattle.intake_core.specs.Replays.{replayed, replies_of}
use Rattle.intake_core.proofs.Runs.{RunsOn}
use Rattle.intake_core.proofs.replaying.answer_all.Given as goal

-- So far each step that was taken out has its reply.
abbrev pub invariant-loop-step : goal.invariant-loop-step
invariant-loop-step l = record {
  runs : RunsOn l.task (replies_of (replayed l.fn.desk (map asked l.initial.left.items))) l.desk l.left.items l.replies;
  count : length l.replies + length l.left.items ≡ length l.initial.left.items;
}

abbrev pub decreases-loop-step : goal.decreases-loop-step
decreases-loop-step l = length l.left.items
