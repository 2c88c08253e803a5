-- What contracts see of a bench and of the seats at it.

use Rattle.std.specs.Prelude.{◌≡◌, ◌<◌, ◌≤◌, ℕ, ◌+◌, ◌-◌, List, [], ◌++◌, Some, slice_get, take}
use Rattle.std.specs.List.{range_with_len}
use Rattle.atomic_table.specs.Seated.{TableId}
use Rattle.intake_rules.specs.declared.refusal.Refusal.{Refusal}
use Rattle.intake_rules.specs.declared.refusal.Refusal.TheVariants.{NotReady}
use Rattle.intake_rules.specs.Intake.{Intake}
use Rattle.bench_rule.specs.declared.views.Held.{Held}
use Rattle.bench_rule.specs.declared.views.Setting.{Setting}
use Rattle.bench_rule.specs.declared.views.View.{View}
use Rattle.bench_rule.specs.Views.{times, with_miss, with_taken}

-- a bench: which table it is, and what it was made for
pub record BenchFacts : Type 0 where
  pub table : TableId
  pub setting : Setting

-- a seat: at which table it is, and what it knows
pub record SeatFacts : Type 0 where
  pub table : TableId
  pub view : View

-- the seat is one at this bench
abbrev pub SitsAt : BenchFacts → SeatFacts → Type 0
SitsAt bench seat = (seat.table ≡ bench.table) × (seat.view.setting ≡ Some bench.setting)

-- the intake as far as the owner knows it by itself: all but how far each job has come
abbrev pub accepted_intake : View → Intake
accepted_intake view = record { jobs = view.jobs; stages = []; closed = view.closed; emitted = view.emitted }

-- all slots in order, from `start` to the last, and then from the first to the one before `start`
abbrev pub round : ℕ → ℕ → List ℕ
round slots start = range_with_len start (slots - start) ++ range_with_len 0 start

-- each of these slots was found in another state than the seat wanted
abbrev pub with_misses : View → List ℕ → View
with_misses view missed = record view { misses = view.misses ++ missed }

-- the seat went round all slots, and nothing about it changed except its misses
abbrev pub PassedAll : ℕ → View → View → Type 0
PassedAll slots before later = (start : ℕ) × (start ≤ slots) × (later ≡ with_misses before (round slots start))

-- the seat holds the ticket's slot now, which is below `to`, and found each slot from `from` up to it in another state than it wanted
abbrev pub TookAmong : ℕ → ℕ → Held → View → View → Type 0
TookAmong from to ticket before later = (passed : ℕ) × (ticket.slot ≡ from + passed) × (ticket.slot < to)
    × (later ≡ with_taken (with_misses before (range_with_len from passed)) ticket.slot ticket.job)

-- the seat went round the slots as far as this one, which it holds now
abbrev pub TookOnRound : ℕ → Held → View → View → Type 0
TookOnRound slots ticket before later = (start : ℕ) × (passed : ℕ) × (start ≤ slots) × (slice_get (round slots start) passed ≡ Some ticket.slot)
    × (later ≡ with_taken (with_misses before (take passed (round slots start))) ticket.slot ticket.job)

-- a refused emit changes nothing, except that a job that is not ready is one more miss; and the owner did not know that it was finished
abbrev pub AfterRefusal : View → Refusal → View → Type 0
AfterRefusal before (NotReady job) later = (later ≡ with_miss before job) × (times job before.finished ≡ 0)
AfterRefusal before why later = later ≡ before
