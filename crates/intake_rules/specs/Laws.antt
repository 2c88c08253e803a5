-- What is proved of the rules and of histories.

use Rattle.std.specs.Prelude.{◌≡◌, ◌≢◌, ◌↔◌, ◌⊎◌, ◌<◌, ◌≤◌, ◌++◌, ℕ, suc, List, [], ◌∷◌, Option, Some, true, false, length, map, take, slice_get, All, MatchOption}
use Rattle.strips_task.specs.declared.plans.Plan.{Plan}
use Rattle.strips_task.specs.declared.costs.CostedTask.{CostedTask}
use Rattle.intake_rules.specs.declared.finding.Finding.{Finding}
use Rattle.intake_rules.specs.declared.refusal.Refusal.{Refusal}
use Rattle.intake_rules.specs.declared.refusal.Refusal.TheVariants as refusal
use Rattle.intake_rules.specs.declared.reply.Reply.{Reply}
use Rattle.intake_rules.specs.declared.reply.Reply.TheVariants as reply
use Rattle.intake_rules.specs.Findings.{verdict_of, counted_cost}
use Rattle.intake_rules.specs.History.{History, jobs, accepted, is_closed, emitted, finding_of, is_finished, is_out, left_by, IsLawful, TakesLeast, HasRightFindings}
use Rattle.intake_rules.specs.Intake.{empty_intake, jobs_of}
use Rattle.intake_rules.specs.Jobs.{AcceptedPlan, job_eq}
use Rattle.intake_rules.specs.Rules.{Event, submit, finish, emit, Allows, reply_to, after}

-- jobs that compare as the same are the same
abbrev pub ComparesJobs : AcceptedPlan → AcceptedPlan → Type 0
ComparesJobs job other = (job_eq job other ≡ true) ↔ (job ≡ other)

-- if nothing was asked, the history is lawful, and the intake has no job, no closed planner and nothing emitted
abbrev pub EmptyHistory : ℕ → ℕ → Type 0
EmptyHistory planners slots = IsLawful planners slots [] × TakesLeast planners [] × (left_by planners [] ≡ empty_intake planners)

-- one more pair: an answer that the rules allow after a lawful history keeps it lawful, and the history then leaves what the rules say that the
-- intake knows afterwards
abbrev pub OneMore : ℕ → ℕ → History → Event → Reply → Type 0
OneMore planners slots history event answer = IsLawful planners slots history → Allows slots (left_by planners history) event answer
    → IsLawful planners slots (history ++ (event, answer) ∷ []) × (left_by planners (history ++ (event, answer) ∷ []) ≡ after (left_by planners history) event answer)

-- the rules always allow the answer that gives out the least waiting job, and a history that always gave out the least one still does with it
abbrev pub LeastGoesOn : ℕ → ℕ → History → Event → Type 0
LeastGoesOn planners slots history event = Allows slots (left_by planners history) event (reply_to slots (left_by planners history) event)
    × (TakesLeast planners history → TakesLeast planners (history ++ (event, reply_to slots (left_by planners history) event) ∷ []))

-- a lawful history of these events that gives out the least jobs
abbrev pub IsOf : ℕ → ℕ → List Event → History → Type 0
IsOf planners slots events history = IsLawful planners slots history × TakesLeast planners history × (map (λ pair. pair.0) history ≡ events)

-- for a list of events there is exactly one history that is lawful and gives out the least jobs
abbrev pub OneHistory : ℕ → ℕ → List Event → Type 0
OneHistory planners slots events = (history : History) × IsOf planners slots events history × ((other : History) → IsOf planners slots events other → other ≡ history)

-- the first pairs of a history are lawful if the whole history is, give out the least jobs if it does, and have right findings if it has
abbrev pub PrefixesAreLawful : ℕ → ℕ → CostedTask → History → Type 0
PrefixesAreLawful planners slots task history = (count : ℕ) → (IsLawful planners slots history → IsLawful planners slots (take count history))
    × (TakesLeast planners history → TakesLeast planners (take count history))
    × (HasRightFindings task history → HasRightFindings task (take count history))

-- for each planner, the verdicts and the costs of the emitted findings are those of its first accepted plans, in order, as many as were emitted
abbrev pub VerdictsInOrder : CostedTask → History → Type 0
VerdictsInOrder task history = (planner : ℕ) → (length (emitted planner history) ≤ length (accepted planner history))
    × (map (λ finding. finding.verdict) (emitted planner history) ≡ take (length (emitted planner history)) (map (verdict_of task) (accepted planner history)))
    × (map (λ finding. finding.cost) (emitted planner history) ≡ take (length (emitted planner history)) (map (counted_cost task) (accepted planner history)))

-- two histories leave the same jobs, closed planners, emitted findings, findings of jobs, and jobs that are out
pub record LeaveTheSame (before later : History) : Type 0 where
  pub same_jobs : jobs later ≡ jobs before
  pub same_closed : (planner : ℕ) → is_closed planner later ≡ is_closed planner before
  pub same_emitted : (planner : ℕ) → emitted planner later ≡ emitted planner before
  pub same_findings : (job : ℕ) → finding_of job later ≡ finding_of job before
  pub same_out : (job : ℕ) → is_out job later ≡ is_out job before

-- after an event that was refused, a history leaves what it left before
abbrev pub RefusalsChangeNothing : History → Type 0
RefusalsChangeNothing history = (index : ℕ) (event : Event) (why : Refusal) → slice_get history index ≡ Some (event, reply.Refused why)
    → LeaveTheSame (take index history) (take (suc index) history)

-- a plan of a planner that was closed before is refused as `Closed`
abbrev pub RefusedAfterClose : History → Type 0
RefusedAfterClose history = (index planner : ℕ) (plan : Plan) (answer : Reply) → slice_get history index ≡ Some (submit planner plan, answer)
    → is_closed planner (take index history) ≡ true → answer ≡ reply.Refused refusal.Closed

-- a finding for a job that was finished before is refused as `AlreadyFinished`
abbrev pub RefusedDoubled : History → Type 0
RefusedDoubled history = (index job : ℕ) (finding : Finding) (answer : Reply) → slice_get history index ≡ Some (finish job (Some finding), answer)
    → is_finished job (take index history) ≡ true → answer ≡ reply.Refused refusal.AlreadyFinished

-- the answer to a strange finding for a job, by what is strange: there is no such job, it is neither out nor finished, or the finding is of another
-- job
pub record AnswersStrange (before : History) (job : ℕ) (finding : Finding) (answer : Reply) : Type 0 where
  pub unknown_job : length (jobs before) ≤ job → answer ≡ reply.Refused refusal.UnknownJob
  pub not_out : job < length (jobs before) → is_finished job before ≡ false → is_out job before ≡ false → answer ≡ reply.Refused refusal.NotOut
  pub other_plan : is_out job before ≡ true → slice_get (jobs before) job ≢ Some finding.job → answer ≡ reply.Refused refusal.OtherPlan

-- each strange finding is answered so, and a finish without a finding is refused as `UnknownJob`
abbrev pub RefusedStrange : History → Type 0
RefusedStrange history = (index job : ℕ) (found : Option Finding) (answer : Reply) → slice_get history index ≡ Some (finish job found, answer)
    → MatchOption found (answer ≡ reply.Refused refusal.UnknownJob) (λ finding. AnswersStrange (take index history) job finding answer)

-- each accepted job of a planner is finished
abbrev pub AllFinished : ℕ → History → Type 0
AllFinished planner history = All (λ job. is_finished job.number history ≡ true) (jobs_of planner (jobs history))

-- if a planner is closed and all its jobs are finished, an emit for it gives a finding or is refused as `Complete`, the latter exactly if as many
-- findings were emitted as plans were accepted
abbrev pub WholeListOnceClosed : History → Type 0
WholeListOnceClosed history = (index planner : ℕ) (answer : Reply) → slice_get history index ≡ Some (emit planner, answer)
    → is_closed planner (take index history) ≡ true → AllFinished planner (take index history)
    → (((finding : Finding) × (answer ≡ reply.Emitted finding)) ⊎ (answer ≡ reply.Refused refusal.Complete))
    × ((answer ≡ reply.Refused refusal.Complete) ↔ (length (emitted planner (take index history)) ≡ length (accepted planner (take index history))))

-- when `Complete` is answered, the verdicts and the costs of all accepted plans of the planner were emitted, in order
abbrev pub CompleteIsWhole : CostedTask → History → Type 0
CompleteIsWhole task history = (index planner : ℕ) → slice_get history index ≡ Some (emit planner, reply.Refused refusal.Complete)
    → (map (λ finding. finding.verdict) (emitted planner (take index history)) ≡ map (verdict_of task) (accepted planner (take index history)))
    × (map (λ finding. finding.cost) (emitted planner (take index history)) ≡ map (counted_cost task) (accepted planner (take index history)))
