-- What the owner keeps beside its seat, after each kind of step.

use Rattle.std.proofs.Common.{◌≡◌, ◌≢◌, ◌<◌, ℕ, suc, ◌+◌, Bool, List, [], ◌∷◌, ◌++◌, length, slice_get, slice_index, slice_set, Some, refl, sym, ap, ◌∙◌, subst, ⊎_elim, arith, eqb, append_assoc, get_or-set_same, get_or-set_other}
use Rattle.std.specs.Prelude.{min}
use Rattle.std.proofs.lemmas.List.{length-append, length-set, map-append}
use Rattle.std.proofs.lemmas.Option.{slice_get_within}
use mathlib.Core.Logic.{dite}
use native.Mathlib.Decide.{ℕ_discrete}
use Rattle.atomic_table.specs.Seated.{TableId}
use Rattle.intake_rules.specs.Jobs.{AcceptedPlan}
use Rattle.intake_rules.proofs.Pushes.{slice_get_cases}
use Rattle.bench_rule.specs.declared.contents.Item.TheVariants.{Nothing}
use Rattle.bench_rule.specs.Views.{Carried, Sitting, HoldsJob, IsNext, rank, slots_of, one_if, times_held, with_emission, with_finished, with_handed_back, with_posted, without_held, without_slot}
use Rattle.bench_rule.proofs.Counts.{carries_without, held_often, one_at, times-push, without_else}
use Rattle.bench_rule.proofs.Ranks.{rank_push}
use Rattle.judge_bench.specs.Bookkeeping.{OwnerBooks, Numbered}
use Rattle.judge_bench.proofs.Cursors.{cursor_set, rank_next}
use Rattle.judge_bench.proofs.Holding.{within_without}

pub kept_as : (table table' : TableId) (id id' : ℕ) (me me' : Sitting) (planners planners' cursors : List ℕ) (closed : List Bool) (out first : ℕ)
    → table' ≡ table → id' ≡ id → me' ≡ me → planners' ≡ planners → OwnerBooks table id me planners cursors closed out first → OwnerBooks table' id' me' planners' cursors closed out first
kept_as table table' id id' me me' planners planners' cursors closed out first one two three four kept =
    subst (λ (z : TableId × ℕ × Sitting × List ℕ). OwnerBooks z.0 z.1 z.2 z.3 cursors closed out first) (sym (λ i. (one i, two i, three i, four i))) kept

numbered_push : (jobs : List AcceptedPlan) (job : AcceptedPlan) → Numbered jobs → job.number ≡ length jobs → Numbered (jobs ++ job ∷ [])
numbered_push jobs job before number slot other there = ⊎_elim
    (λ (z : (slot < length jobs) × (slice_get jobs slot ≡ Some other)). before slot other z.1)
    (λ (z : (slot ≡ length jobs) × (job ≡ other)). ap (λ (x : AcceptedPlan). x.number) (sym z.1) ∙ (number ∙ sym z.0))
    (slice_get_cases jobs job other slot there)

module _ (table : TableId) (id : ℕ) (me : Sitting) (planners cursors : List ℕ) (closed : List Bool) (out first : ℕ) (kept : OwnerBooks table id me planners cursors closed out first) where
  pub post_keeps : (job : AcceptedPlan) → length me.0.jobs < table.slots → job.number ≡ length me.0.jobs
      → OwnerBooks table id (with_posted me.0 job, me.1) (planners ++ job.planner ∷ []) cursors closed out first
  post_keeps job inside number = let more = length-append me.0.jobs (job ∷ []) in record {
    zero = kept.zero;
    few = kept.few;
    lifted = refl;
    carries = kept.carries;
    within = kept.within;
    cursors_are = record {
      planners_are = ap (λ (ps : List ℕ). ps ++ job.planner ∷ []) kept.cursors_are.planners_are ∙ sym (map-append (λ (j : AcceptedPlan). j.planner) me.0.jobs (job ∷ []));
      count = kept.cursors_are.count;
      within = λ planner. omega (arith, more, kept.cursors_are.within planner);
      reached = λ planner. rank_push me.0.jobs job planner (slice_index cursors planner) (kept.cursors_are.within planner) ∙ kept.cursors_are.reached planner;
    };
    closed_are = kept.closed_are;
    out = kept.out;
    fits = omega arith;
    alike = kept.alike;
    numbered = numbered_push me.0.jobs job kept.numbered number;
    first_within = (let within = kept.first_within in omega arith);
    none_before = λ none slot before waits. kept.none_before none slot before (let within = kept.first_within in omega arith, waits.1, waits.2);
  }

  -- the slot of an emitted finding comes behind the others
  pub emit_keeps : (planner slot : ℕ) (job : AcceptedPlan) → IsNext me.0 slot job → job.planner ≡ planner
      → OwnerBooks table id (with_emission me.0 planner, me.1 ++ (slot, Nothing) ∷ []) planners (slice_set cursors planner (slot + 1)) closed out first
  emit_keeps planner slot job next his = let long = length-set me.0.emitted planner (suc (slice_index me.0.emitted planner)) in let inside : planner < length me.0.emitted = subst (λ p. p < length me.0.emitted) his next.planner_within in record {
    zero = kept.zero;
    few = kept.few;
    lifted = kept.lifted;
    carries = (kept.carries.0 ++ (slot, Nothing) ∷ [], ap (λ (l : Carried). l ++ (slot, Nothing) ∷ []) kept.carries.1 ∙ append_assoc (slots_of me.0.held) kept.carries.0 ((slot, Nothing) ∷ []));
    within = kept.within;
    cursors_are = cursor_set me.0.jobs me.0.emitted (slice_set me.0.emitted planner (suc (slice_index me.0.emitted planner))) planners cursors planner (slot + 1) kept.cursors_are long inside
        (omega (arith, slice_get_within me.0.jobs slot job next.job_of_slot))
        (rank_next me.0.jobs slot planner job next.job_of_slot his ∙ ap suc (subst (λ p. rank me.0.jobs p slot ≡ slice_index me.0.emitted p) his next.next) ∙ sym (get_or-set_same me.0.emitted planner _ 0 inside))
        (λ other apart. get_or-set_other me.0.emitted planner other _ 0 apart);
    closed_are = kept.closed_are;
    out = kept.out;
    fits = kept.fits;
    alike = (let alike = kept.alike in omega arith);
    numbered = kept.numbered;
    first_within = kept.first_within;
    none_before = kept.none_before;
  }

  carries_on : (slot : ℕ) (job : AcceptedPlan) → HoldsJob slot job me.0.held → without_slot slot me.1 ≡ slots_of (without_held slot me.0.held) ++ kept.carries.0
  carries_on slot job holds = ap (without_slot slot) kept.carries.1 ∙ carries_without slot me.0.held kept.carries.0 (held_often slot job me.0.held holds)

  -- a slot other than a held one that is spent waits afterwards only if it did before
  waited : (slot other : ℕ) → other ≢ slot → times_held other (without_held slot me.0.held) ≡ 0 → times_held other me.0.held ≡ 0
  waited slot other apart none = sym (without_else slot other me.0.held apart) ∙ none

  pub finish_keeps : (slot : ℕ) (job : AcceptedPlan) → HoldsJob slot job me.0.held → OwnerBooks table id (with_finished me.0 slot, without_slot slot me.1) planners cursors closed out first
  finish_keeps slot job holds = record {
    zero = kept.zero;
    few = kept.few;
    lifted = kept.lifted;
    carries = (kept.carries.0, carries_on slot job holds);
    within = within_without table.slots slot me.0.held kept.within;
    cursors_are = kept.cursors_are;
    closed_are = kept.closed_are;
    out = kept.out;
    fits = kept.fits;
    alike = kept.alike;
    numbered = kept.numbered;
    first_within = kept.first_within;
    none_before = λ none other before waits. let named = times-push other slot me.0.finished in dite (ℕ_discrete other slot)
        (λ same. let one : one_if (eqb slot other) ≡ 1 = one_at slot other (sym same) in let unnamed = waits.2 in absurd (omega arith))
        (λ apart. kept.none_before none other before (waits.0, waited slot other apart waits.1, let unnamed = waits.2 in omega arith));
  }

  pub hand_back_keeps : (slot : ℕ) (job : AcceptedPlan) → HoldsJob slot job me.0.held → OwnerBooks table id (with_handed_back me.0 slot, without_slot slot me.1) planners cursors closed out (min first slot)
  hand_back_keeps slot job holds = record {
    zero = kept.zero;
    few = kept.few;
    lifted = kept.lifted;
    carries = (kept.carries.0, carries_on slot job holds);
    within = within_without table.slots slot me.0.held kept.within;
    cursors_are = kept.cursors_are;
    closed_are = kept.closed_are;
    out = kept.out;
    fits = kept.fits;
    alike = kept.alike;
    numbered = kept.numbered;
    first_within = (let within = kept.first_within in omega arith);
    none_before = λ none other before waits. let apart : other ≢ slot = λ same. omega arith in
        kept.none_before none other (omega arith) (waits.0, waited slot other apart waits.1, waits.2);
  }
