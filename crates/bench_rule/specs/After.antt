-- The bench after a step of each kind.

use Rattle.std.specs.Prelude.{ℕ, ◌+◌, [], ◌∷◌, ◌++◌, slice_set}
use mathlib.Core.Option.{Option, some, none}
use Rattle.intake_rules.specs.declared.finding.Finding.{Finding}
use Rattle.intake_rules.specs.Jobs.{AcceptedPlan}
use Rattle.bench_rule.specs.declared.contents.Item.TheVariants.{Waiting, Done}
use Rattle.bench_rule.specs.declared.views.View.{View}
use Rattle.bench_rule.specs.Views.{Content, Bench, worker_view, spent_view, with_lifted, with_posted, with_taken, with_finished, with_handed_back, with_emission, with_seat_out, with_joined, with_shut}

-- the bench with another word for one slot, another content in it or none, and another view for one seat
abbrev pub with_slot : Bench → ℕ → ℕ → Option Content → ℕ → View → Bench
with_slot bench slot word content id view = record {
  words = slice_set bench.words (slot + 1) word;
  homes = slice_set bench.homes slot content;
  views = slice_set bench.views id view;
}

-- the bench with another view for one seat
abbrev pub with_view : Bench → ℕ → View → Bench
with_view bench id view = record { words = bench.words; homes = bench.homes; views = slice_set bench.views id view }

-- the owner has an unused slot in its hands
abbrev pub after_lift : Bench → ℕ → View → Bench
after_lift bench slot view = with_slot bench slot 0 none 0 (with_lifted view)

-- a job is in the slot and waits
abbrev pub after_post : Bench → ℕ → View → AcceptedPlan → Bench
after_post bench slot view job = with_slot bench slot 1 (some (Waiting job)) 0 (with_posted view job)

-- a seat holds the slot
abbrev pub after_take : Bench → ℕ → ℕ → View → AcceptedPlan → Bench
after_take bench id slot view job = with_slot bench slot 2 none id (with_taken view slot job)

-- a finding is in the slot
abbrev pub after_finish : Bench → ℕ → ℕ → View → Finding → Bench
after_finish bench id slot view finding = with_slot bench slot 3 (some (Done finding)) id (with_finished view slot)

-- the job is in the slot and waits again
abbrev pub after_hand_back : Bench → ℕ → ℕ → View → AcceptedPlan → Bench
after_hand_back bench id slot view job = with_slot bench slot 1 (some (Waiting job)) id (with_handed_back view slot)

-- the owner has taken the finding of the slot
abbrev pub after_emit : Bench → ℕ → View → AcceptedPlan → Bench
after_emit bench slot view job = with_slot bench slot 4 none 0 (with_emission view job.planner)

-- a worker has a seat
abbrev pub after_split : Bench → View → Bench
after_split bench view = record { words = bench.words; homes = bench.homes; views = slice_set bench.views 0 (with_seat_out view) ++ worker_view view.setting ∷ [] }

-- a worker's seat is joined to the owner's
abbrev pub after_join : Bench → View → ℕ → View → Bench
after_join bench view other joined = record { words = bench.words; homes = bench.homes; views = slice_set (slice_set bench.views 0 (with_joined view joined)) other spent_view }

-- the bench is shut
abbrev pub after_shut : Bench → View → Bench
after_shut bench view = record { words = slice_set bench.words 0 1; homes = bench.homes; views = slice_set bench.views 0 (with_shut view) }
