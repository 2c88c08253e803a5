-- Worked histories, which the rules answer so: how the tables read.

use Rattle.std.proofs.Common.{◌≡◌, ℕ, List, [], ◌∷◌, Some, None, map, refl}
use Rattle.strips_task.specs.declared.plans.Plan.{Plan}
use Rattle.strips_task.specs.declared.plans.Plan.TheVariants.{Unreadable}
use Rattle.strips_judge.specs.declared.verdict.Verdict.TheVariants as verdict
use Rattle.plan_cost.specs.declared.costs.Cost.TheVariants as cost
use Rattle.intake_rules.specs.declared.finding.Finding.{Finding}
use Rattle.intake_rules.specs.declared.refusal.Refusal.TheVariants as refusal
use Rattle.intake_rules.specs.declared.reply.Reply.TheVariants.{Accepted, ClosedNow, Taken, NoJob, Returned, Finished, Emitted, Refused}
use Rattle.intake_rules.specs.History.{History}
use Rattle.intake_rules.specs.Intake.{Intake, empty_intake, jobs_of}
use Rattle.intake_rules.specs.Rules.{Event, submit, close, take_job, hand_back, finish, emit, reply_to, after}

-- events with the replies of an intake of this many slots that always gives out the least job
abbrev answered : ℕ → Intake → List Event → History
answered slots intake [] = []
answered slots intake (event ∷ events) = (event, reply_to slots intake event) ∷ answered slots (after intake event (reply_to slots intake event)) events

-- an intake for one planner answers the history's events as the history has it
abbrev IsAnswered : ℕ → History → Type 0
IsAnswered slots history = answered slots (empty_intake 1) (map (λ pair. pair.0) history) ≡ history

-- two plans, and findings of them as jobs of planner 0
abbrev plan : Plan
plan = Unreadable 1

abbrev other : Plan
other = Unreadable 2

abbrev finding : ℕ → Plan → Finding
finding number of = record { job = record { number = number; planner = 0; plan = of }; verdict = verdict.Valid number; cost = cost.NotCounted }

-- findings are emitted in the order of acceptance, whichever came first
abbrev in_order : History
in_order =
    (submit 0 plan, Accepted 0)
    ∷ (submit 0 other, Accepted 1)
    ∷ (take_job, Taken 0)
    ∷ (take_job, Taken 1)
    ∷ (finish 1 (Some (finding 1 other)), Finished)
    ∷ (emit 0, Refused (refusal.NotReady 0))
    ∷ (finish 0 (Some (finding 0 plan)), Finished)
    ∷ (emit 0, Emitted (finding 0 plan))
    ∷ (emit 0, Emitted (finding 1 other))
    ∷ []

in_order_is : IsAnswered 2 in_order
unfolding jobs_of
in_order_is = refl

-- a planner is closed once, and has all where it has no job left
abbrev closing : History
closing =
    (emit 0, Refused refusal.NothingYet)
    ∷ (close 0, ClosedNow)
    ∷ (submit 0 plan, Refused refusal.Closed)
    ∷ (close 0, Refused refusal.AlreadyClosed)
    ∷ (emit 0, Refused refusal.Complete)
    ∷ (emit 1, Refused refusal.NoPlanner)
    ∷ (close 1, Refused refusal.NoPlanner)
    ∷ []

closing_is : IsAnswered 2 closing
unfolding jobs_of
closing_is = refl

-- a finding is stored once, for its own job, while that is out
abbrev finishing : History
finishing =
    (submit 0 plan, Accepted 0)
    ∷ (submit 0 plan, Accepted 1)
    ∷ (take_job, Taken 0)
    ∷ (finish 0 (Some (finding 1 plan)), Refused refusal.OtherPlan)
    ∷ (finish 0 (Some (finding 0 plan)), Finished)
    ∷ (finish 0 (Some (finding 0 plan)), Refused refusal.AlreadyFinished)
    ∷ (finish 1 (Some (finding 1 plan)), Refused refusal.NotOut)
    ∷ (finish 9 (Some (finding 0 plan)), Refused refusal.UnknownJob)
    ∷ (finish 1 None, Refused refusal.UnknownJob)
    ∷ (take_job, Taken 1)
    ∷ (hand_back 1, Returned)
    ∷ (hand_back 1, Refused refusal.NotOut)
    ∷ (take_job, Taken 1)
    ∷ (finish 1 (Some (finding 1 plan)), Finished)
    ∷ (finish 1 (Some (finding 1 plan)), Refused refusal.AlreadyFinished)
    ∷ (hand_back 1, Refused refusal.AlreadyFinished)
    ∷ (hand_back 9, Refused refusal.UnknownJob)
    ∷ []

finishing_is : IsAnswered 3 finishing
unfolding jobs_of
finishing_is = refl

-- of several reasons the first is given
abbrev refusing : History
refusing =
    (take_job, NoJob)
    ∷ (submit 0 plan, Accepted 0)
    ∷ (submit 0 plan, Refused refusal.Full)
    ∷ (close 0, ClosedNow)
    ∷ (submit 0 plan, Refused refusal.Closed)
    ∷ (submit 5 plan, Refused refusal.NoPlanner)
    ∷ []

refusing_is : IsAnswered 1 refusing
unfolding jobs_of
refusing_is = refl
