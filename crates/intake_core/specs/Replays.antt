-- What a list of steps does to a desk.

use Rattle.std.specs.Prelude.{ℕ, List, [], ◌∷◌, map, take, slice_get, option_map}
use Rattle.strips_task.specs.declared.costs.CostedTask.{CostedTask}
use Rattle.intake_rules.specs.declared.reply.Reply.{Reply}
use Rattle.intake_rules.specs.Findings.{right_finding}
use Rattle.intake_rules.specs.History.{History, IsLawful, TakesLeast}
use Rattle.intake_rules.specs.Intake.{empty_intake}
use Rattle.intake_rules.specs.Laws.{VerdictsInOrder, RefusalsChangeNothing, RefusedAfterClose, RefusedDoubled, RefusedStrange, WholeListOnceClosed, CompleteIsWhole}
use Rattle.intake_rules.specs.Rules.{Event, submit, close, take_job, hand_back, finish, emit}
use Rattle.intake_core.specs.Asked.{Asked, to_submit, to_close, to_take, to_hand_back, to_finish, to_emit}
use Rattle.intake_core.specs.State.{DeskState, desk_reply, desk_after}

-- what a step asks of a desk: a finish hands in the right finding of the job that it names, if there is one
abbrev pub event_of : DeskState → Asked → Event
event_of desk (to_submit planner plan) = submit planner plan
event_of desk (to_close planner) = close planner
event_of desk to_take = take_job
event_of desk (to_hand_back job) = hand_back job
event_of desk (to_finish job of) = finish job (option_map (right_finding desk.task) (slice_get desk.intake.jobs of))
event_of desk (to_emit planner) = emit planner

-- the events of the steps, each with the reply of the desk as the steps before left it
unfoldable pub replayed : DeskState → List Asked → History
replayed desk [] = []
replayed desk (step ∷ steps) =
    (event_of desk step, desk_reply desk (event_of desk step))
    ∷ replayed (desk_after desk (event_of desk step) (desk_reply desk (event_of desk step))) steps

-- the replies of a history, in order
abbrev pub replies_of : History → List Reply
replies_of history = map (λ pair. pair.1) history

-- the events and replies of the steps at a new desk
abbrev pub history_of : CostedTask → ℕ → ℕ → List Asked → History
history_of task planners slots steps = replayed (record { task = task; slots = slots; intake = empty_intake planners }) steps

-- what is true of every history of a desk
pub record Headline (task : CostedTask) (planners slots : ℕ) (history : History) : Type 0 where
  -- each reply is the rules', and each take gives out the least job that waits
  pub lawful : IsLawful planners slots history
  pub least : TakesLeast planners history
  -- at each moment the verdicts and costs emitted for a planner are the first of those of its accepted plans, in order, each once
  pub verdicts : (count : ℕ) → VerdictsInOrder task (take count history)
  -- what is refused changes nothing; plans after the close, doubled findings and strange ones are refused
  pub refusals : RefusalsChangeNothing history
  pub after_close : RefusedAfterClose history
  pub doubled : RefusedDoubled history
  pub strange : RefusedStrange history
  -- once a planner is closed with all its plans finished, emitting until `Complete` gives the whole list
  pub whole_list : WholeListOnceClosed history
  pub complete : CompleteIsWhole task history
