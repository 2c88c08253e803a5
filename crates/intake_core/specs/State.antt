-- A desk as contracts see it.

use Rattle.std.specs.Prelude.{ℕ}
use Rattle.strips_task.specs.declared.costs.CostedTask.{CostedTask}
use Rattle.intake_rules.specs.declared.reply.Reply.{Reply}
use Rattle.intake_rules.specs.Intake.{Intake}
use Rattle.intake_rules.specs.Rules.{Event, after, reply_to}

-- the task whose plans are judged, how many plans can be accepted, and what the desk knows
pub record DeskState : Type 0 where
  pub task : CostedTask
  pub slots : ℕ
  pub intake : Intake

-- the desk with another intake
abbrev pub with_intake : DeskState → Intake → DeskState
with_intake desk intake = record { task = desk.task; slots = desk.slots; intake = intake }

-- the desk after an event and its reply
abbrev pub desk_after : DeskState → Event → Reply → DeskState
desk_after desk event answer = with_intake desk (after desk.intake event answer)

-- the one reply of the desk to an event
abbrev pub desk_reply : DeskState → Event → Reply
desk_reply desk event = reply_to desk.slots desk.intake event
