-- The rule: how words, slots and views fit together between any two steps.

use Rattle.std.specs.Prelude.{◌≡◌, ◌≢◌, ◌↔◌, ◌<◌, ◌≤◌, ℕ, ◌+◌, Bool, true, nat_eq, List, [], ◌∷◌, length, slice_get, slice_index, Option, Some}
use mathlib.Core.Option.{some, none}
use mathlib.Core.Option as maybe
use lib.ListN.{get_elem?}
use Rattle.strips_task.specs.declared.costs.CostedTask.{CostedTask}
use Rattle.intake_rules.specs.declared.finding.Finding.{Finding}
use Rattle.intake_rules.specs.Findings.{IsRight}
use Rattle.intake_rules.specs.Jobs.{AcceptedPlan}
use Rattle.bench_rule.specs.declared.contents.Item.TheVariants.{Waiting, Done}
use Rattle.bench_rule.specs.declared.views.Held.{Held}
use Rattle.bench_rule.specs.declared.views.Role.{Role}
use Rattle.bench_rule.specs.declared.views.Role.TheVariants.{Owner, Worker, Spent}
use Rattle.bench_rule.specs.declared.views.Setting.{Setting}
use Rattle.bench_rule.specs.declared.views.View.{View}
use Rattle.bench_rule.specs.Views.{Content, Bench, one_if, total, holding, knows_finished, counts_as_worker, rank}

-- what is in a slot: nothing is known about a slot that does not exist, and the inner `none` is for one that a seat carries
abbrev pub Home : Type 0
Home = maybe.Option (maybe.Option Content)

-- the word of a slot: 0 if it is unused, 1 if its job waits, 2 if it is out, 3 if it is finished, 4 if it is emitted
abbrev pub word_of : List ℕ → ℕ → ℕ
word_of words slot = slice_index words (slot + 1)

-- the word that says whether the bench is shut
abbrev pub shut_word : List ℕ → ℕ
shut_word words = slice_index words 0

-- 1 for the word of a slot that is out
abbrev pub out_in : ℕ → ℕ
out_in word = one_if (nat_eq word 2)

-- 1 for the word of a slot that is finished or emitted
abbrev pub finished_in : ℕ → ℕ
finished_in word = one_if (nat_eq word 3) + one_if (nat_eq word 4)

-- this content is in the slot
abbrev pub Rests : Home → Content → Type 0
Rests home content = home ≡ some (some content)

-- what the word of a slot says about the slot
pub record SlotOk (task : CostedTask) (jobs : List AcceptedPlan) (lifted : Bool) (home : Home) (slot word : ℕ) : Type 0 where
  pub known : word ≤ 4
  -- the slots in use are those of the accepted jobs
  pub used : 0 < word → slot < length jobs
  pub unused : word ≡ 0 → length jobs ≤ slot
  -- an unused slot has some content, unless the owner has it in its hands
  pub empty : word ≡ 0 → (lifted ≡ true → slot ≢ length jobs) → (content : Content) × Rests home content
  -- a waiting slot contains its job
  pub waiting : word ≡ 1 → (job : AcceptedPlan) × (slice_get jobs slot ≡ Some job) × Rests home (Waiting job)
  -- a slot that is out is in somebody's hands
  pub out : word ≡ 2 → home ≡ some none
  -- a finished slot contains a right finding of its job
  pub finished : word ≡ 3 → (finding : Finding) × (slice_get jobs slot ≡ Some finding.job) × Rests home (Done finding) × IsRight task finding

-- every seat that is not spent knows what the bench was made for
abbrev pub KnowsSetting : Setting → Role → Option Setting → Type 0
KnowsSetting setting Owner known = known ≡ Some setting
KnowsSetting setting Worker known = known ≡ Some setting
KnowsSetting setting Spent known = Unit {0}

-- the owner's seat is the first one, and a spent seat holds nothing and names nothing as finished
abbrev pub FitsRole : ℕ → Role → List Held → List ℕ → Type 0
FitsRole id Owner held finished = id ≡ 0
FitsRole id Worker held finished = id ≢ 0
FitsRole id Spent held finished = (held ≡ []) × (finished ≡ [])

-- each held slot is held with its accepted job
abbrev pub HeldWithJobs : List AcceptedPlan → List Held → Type 0
HeldWithJobs jobs [] = Unit {0}
HeldWithJobs jobs (held ∷ others) = (slice_get jobs held.slot ≡ Some held.job) × HeldWithJobs jobs others

-- what the rule reads of the owner's view
pub record Book : Type 0 where
  pub jobs : List AcceptedPlan
  pub closed : List Bool
  pub emitted : List ℕ
  pub seats_out : ℕ
  pub lifted : Bool
  pub shut : Bool

-- the parts of the owner's view that the bench keeps count of
abbrev pub book_of : View → Book
book_of view = record { jobs = view.jobs; closed = view.closed; emitted = view.emitted; seats_out = view.seats_out; lifted = view.lifted; shut = view.shut }

-- the seat of this number has this view
abbrev pub HasView : Bench → ℕ → View → Type 0
HasView bench id view = get_elem? bench.views id ≡ some view

-- the first seat is the owner's
pub record OwnerIs (bench : Bench) (view : View) (book : Book) : Type 0 where
  pub first : HasView bench 0 view
  pub role : view.role ≡ Owner
  pub knows : book_of view ≡ book

-- the rule: what the seats know agrees with what is in the slots
pub record Sound (setting : Setting) (bench : Bench) : Type 0 where
  pub book : Book
  pub owner : (view : View) × OwnerIs bench view book
  -- there is a word for each slot, and one more word
  pub slot_count : length bench.homes ≡ setting.slots
  pub word_count : length bench.words ≡ length bench.homes + 1
  -- word 0 is 1 if the owner has shut the bench, and else 0
  pub shut_known : shut_word bench.words ≡ one_if book.shut
  -- a seat notes that the bench is shut only if it is
  pub notes : (id : ℕ) (view : View) → HasView bench id view → view.noted ≡ true → book.shut ≡ true
  pub room : length book.jobs ≤ length bench.homes
  -- the job in slot s has the number s
  pub numbered : (slot : ℕ) (job : AcceptedPlan) → slice_get book.jobs slot ≡ Some job → job.number ≡ slot
  pub closed_count : length book.closed ≡ setting.planners
  pub emitted_count : length book.emitted ≡ setting.planners
  pub each_slot : (slot : ℕ) → slot < length bench.homes → SlotOk setting.task.value book.jobs book.lifted (get_elem? bench.homes slot) slot (word_of bench.words slot)
  -- a slot that is out is held once in all views together, and no other slot is held
  pub held_once : (slot : ℕ) → total (holding slot) bench.views ≡ out_in (word_of bench.words slot)
  -- a slot that is finished or emitted is named as finished once in all views together, and no other slot is
  pub finished_once : (slot : ℕ) → total (knows_finished slot) bench.views ≡ finished_in (word_of bench.words slot)
  pub held_jobs : (id : ℕ) (view : View) → HasView bench id view → HeldWithJobs book.jobs view.held
  -- the seats out are the workers' seats
  pub workers : total counts_as_worker bench.views ≡ book.seats_out
  pub settings : (id : ℕ) (view : View) → HasView bench id view → KnowsSetting setting view.role view.setting
  pub roles : (id : ℕ) (view : View) → HasView bench id view → FitsRole id view.role view.held view.finished
  -- the emitted slots of a planner are those of its first jobs, as many as its emitted count
  pub emitted_first : (slot : ℕ) (job : AcceptedPlan) → slice_get book.jobs slot ≡ Some job → (word_of bench.words slot ≡ 4) ↔ (rank book.jobs job.planner slot < slice_index book.emitted job.planner)
  pub emitted_within : (planner : ℕ) → slice_index book.emitted planner ≤ rank book.jobs planner (length book.jobs)
