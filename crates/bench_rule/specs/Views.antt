-- What seats know of a bench, and how steps change it.

use Rattle.bench_rule.specs.declared.contents.Item.TheVariants.{Nothing}
use Rattle.std.specs.Prelude.{◌≡◌, ◌⊎◌, ◌<◌, ℕ, zero, suc, ◌+◌, ◌-◌, Bool, true, false, nat_eq, cond, List, [], ◌∷◌, ◌++◌, length, map, replicate, slice_get, slice_index, slice_index_or, slice_set, Option, Some, None}
use Rattle.atomic_table.specs.Table.{State, Me}
use Rattle.intake_rules.specs.Jobs.{AcceptedPlan}
use Rattle.bench_rule.specs.declared.contents.Item.{Item}
use Rattle.bench_rule.specs.declared.views.Held.{Held}
use Rattle.bench_rule.specs.declared.views.Role.{Role}
use Rattle.bench_rule.specs.declared.views.Role.TheVariants.{Owner, Worker, Spent}
use Rattle.bench_rule.specs.declared.views.Setting.{Setting}
use Rattle.bench_rule.specs.declared.views.View.{View}

-- what is in a slot, or nothing
abbrev pub Content : Type 0
Content = Item

-- a bench: the words, what is in each slot, and what each seat knows
abbrev pub Bench : Type 0
Bench = State Content View

-- the slots that a seat carries, each with what is in it; the one that it took last comes first
abbrev pub Carried : Type 0
Carried = List (ℕ × Content)

-- a seat: what it knows, and the slots that it carries
abbrev pub Sitting : Type 0
Sitting = Me Content View

-- what the owner knows when a bench is made
abbrev pub first_view : Setting → View
first_view setting = record {
  role = Owner;
  setting = Some setting;
  jobs = [];
  closed = replicate setting.planners false;
  emitted = replicate setting.planners 0;
  seats_out = 0;
  lifted = false;
  shut = false;
  held = [];
  finished = [];
  misses = [];
  noted = false;
}

-- what a worker that has done nothing yet knows
abbrev pub worker_view : Option Setting → View
worker_view setting = record {
  role = Worker;
  setting = setting;
  jobs = [];
  closed = [];
  emitted = [];
  seats_out = 0;
  lifted = false;
  shut = false;
  held = [];
  finished = [];
  misses = [];
  noted = false;
}

-- what is left of a view that was joined to the owner's
abbrev pub spent_view : View
spent_view = record {
  role = Spent;
  setting = None;
  jobs = [];
  closed = [];
  emitted = [];
  seats_out = 0;
  lifted = false;
  shut = false;
  held = [];
  finished = [];
  misses = [];
  noted = false;
}

-- 1 if the test holds, and else 0
abbrev pub one_if : Bool → ℕ
one_if test = cond test 1 0

-- how often a list names a slot
abbrev pub times : ℕ → List ℕ → ℕ
times slot [] = 0
times slot (other ∷ others) = one_if (nat_eq other slot) + times slot others

-- how often a slot is among the held ones
abbrev pub times_held : ℕ → List Held → ℕ
times_held slot [] = 0
times_held slot (held ∷ others) = one_if (nat_eq held.slot slot) + times_held slot others

-- how often a view holds a slot
abbrev pub holding : ℕ → View → ℕ
holding slot view = times_held slot view.held

-- how often a view names a slot as finished
abbrev pub knows_finished : ℕ → View → ℕ
knows_finished slot view = times slot view.finished

-- 1 for a worker
abbrev pub worker_count : Role → ℕ
worker_count Owner = 0
worker_count Worker = 1
worker_count Spent = 0

-- 1 for a worker's view, and 0 for another
abbrev pub counts_as_worker : View → ℕ
counts_as_worker view = worker_count view.role

-- the sum of a number that each element has
abbrev pub total : {A : Type 0} → (A → ℕ) → List A → ℕ
total f [] = 0
total f (x ∷ xs) = f x + total f xs

-- the planner of each job
abbrev pub planners_of : List AcceptedPlan → List ℕ
planners_of jobs = map (λ job. job.planner) jobs

-- how many of the first jobs are this planner's, by the planner of each job
abbrev pub times_among : List ℕ → ℕ → ℕ → ℕ
times_among [] number count = 0
times_among (x ∷ xs) number zero = 0
times_among (x ∷ xs) number (suc count) = one_if (nat_eq x number) + times_among xs number count

-- how many of the first jobs are this planner's
abbrev pub rank : List AcceptedPlan → ℕ → ℕ → ℕ
rank jobs planner count = times_among (planners_of jobs) planner count

-- the job of this slot is the first one of its planner whose finding was not emitted
pub record IsNext (view : View) (slot : ℕ) (job : AcceptedPlan) : Type 0 where
  pub job_of_slot : slice_get view.jobs slot ≡ Some job
  pub next : rank view.jobs job.planner slot ≡ slice_index view.emitted job.planner
  pub planner_within : job.planner < length view.emitted

-- the planner is one of the bench's, and the owner has not closed it
abbrev pub IsOpen : View → ℕ → Type 0
IsOpen view planner = (planner < length view.closed) × (slice_index_or view.closed planner false ≡ false)

-- a job held in a slot
abbrev pub held_with : ℕ → AcceptedPlan → Held
held_with slot job = record { slot = slot; job = job }

-- the slot is held, with this job
abbrev pub HoldsJob : ℕ → AcceptedPlan → List Held → Type 0
HoldsJob slot job [] = ⊥
HoldsJob slot job (held ∷ others) = ((held.slot ≡ slot) × (held.job ≡ job)) ⊎ HoldsJob slot job others

-- the held slots without the first entry of this one
abbrev pub without_held : ℕ → List Held → List Held
without_held slot [] = []
without_held slot (held ∷ others) = cond (nat_eq held.slot slot) others (held ∷ without_held slot others)

-- the carried slots without the first entry of this one
abbrev pub without_slot : ℕ → Carried → Carried
without_slot slot [] = []
without_slot slot (carried ∷ others) = cond (nat_eq carried.0 slot) others (carried ∷ without_slot slot others)

-- the slots of the held jobs, with nothing in them
abbrev pub slots_of : List Held → Carried
slots_of [] = []
slots_of (held ∷ others) = (held.slot, Nothing) ∷ slots_of others

-- a seat carries the slots that it holds, with nothing in them, and after them only slots whose findings it emitted
abbrev pub CarriesHeld : Sitting → Type 0
CarriesHeld seat = (emitted : Carried) × (seat.1 ≡ slots_of seat.0.held ++ emitted)

-- a seat that carried the slots that it held, and then some others, afterwards carries those that it holds then, and the same others
abbrev pub KeepsCarried : Sitting → Sitting → Type 0
KeepsCarried before later = (emitted : Carried) → before.1 ≡ slots_of before.0.held ++ emitted → later.1 ≡ slots_of later.0.held ++ emitted

-- the changes of a view, one for each kind of step

-- the owner has lifted the first unused slot, to put a job into it
abbrev pub with_lifted : View → View
with_lifted view = record view { lifted = true }

-- the job is accepted
abbrev pub with_posted : View → AcceptedPlan → View
with_posted view job = record view { jobs = view.jobs ++ job ∷ []; lifted = false }

-- the slot is held, with this job
abbrev pub with_taken : View → ℕ → AcceptedPlan → View
with_taken view slot job = record view { held = held_with slot job ∷ view.held }

-- the slot was found in another state than the seat wanted
abbrev pub with_miss : View → ℕ → View
with_miss view slot = record view { misses = view.misses ++ slot ∷ [] }

-- the held slot is finished
abbrev pub with_finished : View → ℕ → View
with_finished view slot = record view { held = without_held slot view.held; finished = view.finished ++ slot ∷ [] }

-- the job of the slot was handed back: the slot is no longer held
abbrev pub with_handed_back : View → ℕ → View
with_handed_back view slot = record view { held = without_held slot view.held }

-- one more finding of the planner was emitted
abbrev pub with_emission : View → ℕ → View
with_emission view planner = record view { emitted = slice_set view.emitted planner (suc (slice_index view.emitted planner)) }

-- the planner is closed
abbrev pub with_close : View → ℕ → View
with_close view planner = record view { closed = slice_set view.closed planner true }

-- one more seat is out
abbrev pub with_seat_out : View → View
with_seat_out view = record view { seats_out = view.seats_out + 1 }

-- one seat fewer is out, and what it finished is known
abbrev pub with_joined : View → View → View
with_joined view joined = record view { seats_out = view.seats_out - 1; finished = view.finished ++ joined.finished }

-- the bench is shut
abbrev pub with_shut : View → View
with_shut view = record view { shut = true }

-- the seat has seen that the bench is shut
abbrev pub with_note : View → View
with_note view = record view { noted = true }
