-- What the rule means, and what each kind of step does to the shown intake.

use Rattle.std.specs.Prelude.{◌≡◌, ◌≢◌, ◌↔◌, ◌<◌, ℕ, false, [], ◌∷◌, ◌++◌, length, slice_get, slice_index_or, Some}
use lib.ListN.{get_elem?}
use Rattle.intake_rules.specs.declared.finding.Finding.{Finding}
use Rattle.intake_rules.specs.declared.reply.Reply.{Reply}
use Rattle.intake_rules.specs.declared.reply.Reply.TheVariants as reply
use Rattle.intake_rules.specs.Findings.{IsRight}
use Rattle.intake_rules.specs.History.{History, IsLawful, left_by}
use Rattle.intake_rules.specs.Jobs.{AcceptedPlan}
use Rattle.intake_rules.specs.Rules.{Event, submit, close, take_job, hand_back, finish, emit}
use Rattle.bench_rule.specs.declared.contents.Item.TheVariants.{Waiting, Done}
use Rattle.bench_rule.specs.declared.views.Role.TheVariants.{Worker, Spent}
use Rattle.bench_rule.specs.declared.views.Setting.{Setting}
use Rattle.bench_rule.specs.declared.views.View.{View}
use Rattle.bench_rule.specs.After.{with_view, after_lift, after_post, after_take, after_finish, after_hand_back, after_emit, after_split, after_join, after_shut}
use Rattle.bench_rule.specs.Shown.{owner_of, shown, Moves, Stays}
use Rattle.bench_rule.specs.Sound.{HasView, Sound, Rests, word_of, shut_word, out_in, finished_in}
use Rattle.bench_rule.specs.Views.{Bench, IsNext, HoldsJob, holding, times, times_held, with_close, with_miss, with_note}

-- the seat of this number holds the slot
abbrev pub SeatHolds : Bench → ℕ → ℕ → Type 0
SeatHolds bench id slot = (view : View) × HasView bench id view × (0 < holding slot view)

-- no slot is held by two seats
abbrev pub HeldByOne : Bench → Type 0
HeldByOne bench = (slot id other : ℕ) → SeatHolds bench id slot → SeatHolds bench other slot → id ≡ other

-- a slot is out exactly if a seat holds it
abbrev pub OutIfHeld : Bench → Type 0
OutIfHeld bench = (slot : ℕ) → (word_of bench.words slot ≡ 2) ↔ ((id : ℕ) × SeatHolds bench id slot)

-- a waiting slot contains the job that was accepted there
abbrev pub JobsRest : Setting → Bench → Type 0
JobsRest setting bench = (slot : ℕ) → slot < setting.slots → word_of bench.words slot ≡ 1
    → (job : AcceptedPlan) × (slice_get (owner_of bench.views).jobs slot ≡ Some job) × Rests (get_elem? bench.homes slot) (Waiting job)

-- a finished slot contains a right finding of the job that was accepted there
abbrev pub RightFindingsRest : Setting → Bench → Type 0
RightFindingsRest setting bench = (slot : ℕ) → slot < setting.slots → word_of bench.words slot ≡ 3
    → (finding : Finding) × (slice_get (owner_of bench.views).jobs slot ≡ Some finding.job) × Rests (get_elem? bench.homes slot) (Done finding) × IsRight setting.task.value finding

-- a seat that holds a slot holds it with the job that was accepted there
abbrev pub HeldWithAccepted : Bench → Type 0
HeldWithAccepted bench = (id slot : ℕ) (view : View) (job : AcceptedPlan) → HasView bench id view → HoldsJob slot job view.held → slice_get (owner_of bench.views).jobs slot ≡ Some job

-- while no seat is out, a slot is out exactly if the owner holds it, and finished or emitted exactly if the owner knows that
abbrev pub OwnerKnowsAll : Bench → Type 0
OwnerKnowsAll bench = (view : View) → HasView bench 0 view → view.seats_out ≡ 0 → (slot : ℕ)
    → (times_held slot view.held ≡ out_in (word_of bench.words slot)) × (times slot view.finished ≡ finished_in (word_of bench.words slot))

-- the owner takes an unused slot into its hands: no event
abbrev pub LiftLaw : Setting → Bench → Type 0
LiftLaw setting bench = (slot : ℕ) (view : View) → HasView bench 0 view → slot ≡ length view.jobs → slot < setting.slots → view.lifted ≡ false → Stays setting bench (after_lift bench slot view)

-- the owner posts a job of an open planner: its submit is answered `Accepted`
abbrev pub PostLaw : Setting → Bench → Type 0
PostLaw setting bench = (slot : ℕ) (view : View) (job : AcceptedPlan) → HasView bench 0 view → slot ≡ length view.jobs → slot < setting.slots → job.number ≡ slot
    → job.planner < length view.closed → slice_index_or view.closed job.planner false ≡ false → Moves setting bench (after_post bench slot view job) (submit job.planner job.plan) (reply.Accepted slot)

-- a seat takes a waiting slot: a take is answered `Taken`
abbrev pub TakeLaw : Setting → Bench → Type 0
TakeLaw setting bench = (id slot : ℕ) (view : View) (job : AcceptedPlan) → HasView bench id view → view.role ≢ Spent → slot < setting.slots → word_of bench.words slot ≡ 1
    → slice_get (owner_of bench.views).jobs slot ≡ Some job → Moves setting bench (after_take bench id slot view job) take_job (reply.Taken slot)

-- a seat finishes a slot that it holds: a finish is answered `Finished`
abbrev pub FinishLaw : Setting → Bench → Type 0
FinishLaw setting bench = (id slot : ℕ) (view : View) (finding : Finding) → HasView bench id view → HoldsJob slot finding.job view.held → IsRight setting.task.value finding
    → Moves setting bench (after_finish bench id slot view finding) (finish slot (Some finding)) reply.Finished

-- a seat hands back a slot that it holds: a hand-back is answered `Returned`
abbrev pub HandBackLaw : Setting → Bench → Type 0
HandBackLaw setting bench = (id slot : ℕ) (view : View) (job : AcceptedPlan) → HasView bench id view → HoldsJob slot job view.held → Moves setting bench (after_hand_back bench id slot view job) (hand_back slot) reply.Returned

-- the owner emits the finding of a planner's next job: an emit is answered `Emitted`
abbrev pub EmitLaw : Setting → Bench → Type 0
EmitLaw setting bench = (slot : ℕ) (view : View) (job : AcceptedPlan) (finding : Finding) → HasView bench 0 view → IsNext view slot job → word_of bench.words slot ≡ 3
    → Rests (get_elem? bench.homes slot) (Done finding) → Moves setting bench (after_emit bench slot view job) (emit job.planner) (reply.Emitted finding)

-- the owner closes an open planner: a close is answered `ClosedNow`
abbrev pub CloseLaw : Setting → Bench → Type 0
CloseLaw setting bench = (view : View) (planner : ℕ) → HasView bench 0 view → planner < length view.closed → slice_index_or view.closed planner false ≡ false
    → Moves setting bench (with_view bench 0 (with_close view planner)) (close planner) reply.ClosedNow

-- a seat moves a slot that it holds to the front, or sees a waiting slot: no event
abbrev pub LoadLaw : Setting → Bench → Type 0
LoadLaw setting bench = (id : ℕ) (view : View) → HasView bench id view → Stays setting bench (with_view bench id view)

-- a seat finds a slot in another state than it wanted: no event
abbrev pub MissLaw : Setting → Bench → Type 0
MissLaw setting bench = (id slot : ℕ) (view : View) → HasView bench id view → Stays setting bench (with_view bench id (with_miss view slot))

-- a seat is split off from the owner's: no event
abbrev pub SplitLaw : Setting → Bench → Type 0
SplitLaw setting bench = (view : View) → HasView bench 0 view → Stays setting bench (after_split bench view)

-- a worker's seat that holds nothing is joined to the owner's: no event
abbrev pub JoinLaw : Setting → Bench → Type 0
JoinLaw setting bench = (other : ℕ) (view joined : View) → HasView bench 0 view → HasView bench other joined → joined.role ≡ Worker → joined.held ≡ [] → Stays setting bench (after_join bench view other joined)

-- the owner shuts the bench: no event
abbrev pub ShutLaw : Setting → Bench → Type 0
ShutLaw setting bench = (view : View) → HasView bench 0 view → Stays setting bench (after_shut bench view)

-- a seat sees that the bench is shut: no event
abbrev pub NoteLaw : Setting → Bench → Type 0
NoteLaw setting bench = (id : ℕ) (view : View) → HasView bench id view → shut_word bench.words ≡ 1 → Stays setting bench (with_view bench id (with_note view))

-- if a lawful history leaves what the bench showed before a step that is an event, then with that event it is lawful, too, and leaves what the bench
-- shows after the step
abbrev pub HistoryGoesOn : Setting → Bench → Bench → Type 0
HistoryGoesOn setting before later = (history : History) (event : Event) (answer : Reply) → Moves setting before later event answer
    → IsLawful setting.planners setting.slots history → left_by setting.planners history ≡ shown before
    → IsLawful setting.planners setting.slots (history ++ (event, answer) ∷ []) × (left_by setting.planners (history ++ (event, answer) ∷ []) ≡ shown later)

-- what a bench shows depends only on its words and on what the owner knows, whatever is in its slots
abbrev pub ShownByWords : Setting → Bench → Bench → Type 0
ShownByWords setting bench other = Sound setting other → other.words ≡ bench.words → owner_of other.views ≡ owner_of bench.views → shown other ≡ shown bench
