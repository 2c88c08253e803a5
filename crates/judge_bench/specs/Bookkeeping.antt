-- What the owner and a worker keep in addition to their seats.

use Rattle.std.specs.Prelude.{◌≡◌, ◌<◌, ◌≤◌, ℕ, Bool, false, List, [], ◌∷◌, ◌++◌, ◌^◌, length, slice_get, slice_index, Some}
use Rattle.atomic_table.specs.Seated.{TableId}
use Rattle.intake_rules.specs.Jobs.{AcceptedPlan}
use Rattle.bench_rule.specs.declared.views.Held.{Held}
use Rattle.bench_rule.specs.declared.views.Role.TheVariants.{Worker}
use Rattle.bench_rule.specs.declared.views.View.{View}
use Rattle.bench_rule.specs.Plays.{SeemsWaiting}
use Rattle.bench_rule.specs.Views.{Sitting, CarriesHeld, planners_of, rank, slots_of}

-- each held slot is below `slots`
abbrev pub HeldWithin : ℕ → List Held → Type 0
HeldWithin slots [] = Unit {0}
HeldWithin slots (held ∷ others) = (held.slot < slots) × HeldWithin slots others

-- a worker counts what its seat holds, the seat carries just that, and the next round begins at one of the slots or after the last
pub record WorkerBooks (table : TableId) (me : Sitting) (held next : ℕ) : Type 0 where
  pub role : me.0.role ≡ Worker
  pub carries : me.1 ≡ slots_of me.0.held ++ []
  pub count : held ≡ length me.0.held
  pub within : HeldWithin table.slots me.0.held
  pub begins : next ≤ table.slots

-- no slot from `from` up to, but not including, `to` seems to wait
abbrev pub NoneWaitsAmong : ℕ → ℕ → View → Type 0
NoneWaitsAmong from to view = (slot : ℕ) → from ≤ slot → slot < to → SeemsWaiting slot view → ⊥

-- no slot before this one seems to wait
abbrev pub NoneWaitsBefore : ℕ → View → Type 0
NoneWaitsBefore first view = (slot : ℕ) → slot < first → SeemsWaiting slot view → ⊥

-- each job has the number of its slot
abbrev pub Numbered : List AcceptedPlan → Type 0
Numbered jobs = (slot : ℕ) (job : AcceptedPlan) → slice_get jobs slot ≡ Some job → job.number ≡ slot

-- the owner knows whose each job is, and for each planner a slot before which it has exactly the jobs whose findings were emitted
pub record AreCursors (jobs : List AcceptedPlan) (emitted planners cursors : List ℕ) : Type 0 where
  pub planners_are : planners ≡ planners_of jobs
  pub count : length cursors ≡ length emitted
  pub within : (planner : ℕ) → slice_index cursors planner ≤ length jobs
  pub reached : (planner : ℕ) → rank jobs planner (slice_index cursors planner) ≡ slice_index emitted planner

-- the owner has the first seat; its tables are what the seat knows, and while no seat is out, no slot before the first that it will try seems to wait
pub record OwnerBooks (table : TableId) (id : ℕ) (me : Sitting) (planners cursors : List ℕ) (closed : List Bool) (seats_out first : ℕ) : Type 0 where
  pub zero : id ≡ 0
  pub few : table.slots < 2 ^ 32
  pub lifted : me.0.lifted ≡ false
  pub carries : CarriesHeld me
  pub within : HeldWithin table.slots me.0.held
  pub cursors_are : AreCursors me.0.jobs me.0.emitted planners cursors
  pub closed_are : closed ≡ me.0.closed
  pub out : seats_out ≡ me.0.seats_out
  pub fits : length me.0.jobs ≤ table.slots
  pub alike : length me.0.closed ≡ length me.0.emitted
  pub numbered : Numbered me.0.jobs
  pub first_within : first ≤ length me.0.jobs
  pub none_before : me.0.seats_out ≡ 0 → NoneWaitsBefore first me.0
