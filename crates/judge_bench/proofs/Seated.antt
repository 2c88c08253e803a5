-- What a worker keeps beside its seat, after each kind of step.

use Rattle.std.proofs.Common.{◌≡◌, ℕ, ◌+◌, ◌-◌, [], ◌++◌, length, sym, ap, ◌∙◌, subst, arith}
use Rattle.atomic_table.specs.Seated.{TableId}
use Rattle.intake_rules.specs.Jobs.{AcceptedPlan}
use Rattle.bench_rule.specs.Views.{Sitting, HoldsJob, slots_of, with_finished, with_handed_back, without_held, without_slot}
use Rattle.bench_rule.proofs.Counts.{carries_without, held_often}
use Rattle.judge_bench.specs.Bookkeeping.{WorkerBooks}
use Rattle.judge_bench.proofs.Holding.{length_without, within_without}

pub kept_as : (table table' : TableId) (me me' : Sitting) (held next : ℕ) → table' ≡ table → me' ≡ me → WorkerBooks table me held next → WorkerBooks table' me' held next
kept_as table table' me me' held next one two kept = subst (λ (z : TableId × Sitting). WorkerBooks z.0 z.1 held next) (sym (λ i. (one i, two i))) kept

module _ (table : TableId) (me : Sitting) (held next : ℕ) (kept : WorkerBooks table me held next) where
  carries_on : (slot : ℕ) (job : AcceptedPlan) → HoldsJob slot job me.0.held → without_slot slot me.1 ≡ slots_of (without_held slot me.0.held) ++ []
  carries_on slot job holds = ap (without_slot slot) kept.carries ∙ carries_without slot me.0.held [] (held_often slot job me.0.held holds)

  count_on : (slot : ℕ) (job : AcceptedPlan) → HoldsJob slot job me.0.held → held - 1 ≡ length (without_held slot me.0.held)
  count_on slot job holds = let less = length_without slot me.0.held (held_often slot job me.0.held holds) in let count = kept.count in omega arith

  pub finish_keeps : (slot : ℕ) (job : AcceptedPlan) → HoldsJob slot job me.0.held → WorkerBooks table (with_finished me.0 slot, without_slot slot me.1) (held - 1) next
  finish_keeps slot job holds = record {
    role = kept.role;
    carries = carries_on slot job holds;
    count = count_on slot job holds;
    within = within_without table.slots slot me.0.held kept.within;
    begins = kept.begins;
  }

  pub hand_back_keeps : (slot : ℕ) (job : AcceptedPlan) → HoldsJob slot job me.0.held → WorkerBooks table (with_handed_back me.0 slot, without_slot slot me.1) (held - 1) next
  hand_back_keeps slot job holds = record {
    role = kept.role;
    carries = carries_on slot job holds;
    count = count_on slot job holds;
    within = within_without table.slots slot me.0.held kept.within;
    begins = kept.begins;
  }
