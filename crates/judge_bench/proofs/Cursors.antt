-- Where a planner's next job is looked for.

use Rattle.std.proofs.Common.{◌≡◌, ◌≢◌, ◌<◌, ◌≤◌, ℕ, zero, suc, ◌+◌, List, [], ◌∷◌, length, slice_get, slice_index, get_or, Some, eqb, refl, sym, ap, ◌∙◌, arith, add-one, get_or-set_same, get_or-set_other}
use Rattle.std.specs.Prelude.{slice_set}
use Rattle.std.proofs.lemmas.List.{length-map, length-set, get_or-map}
use Rattle.std.proofs.lemmas.Option.{slice_get_read, slice_get_within, get_or_from_slice_get}
use mathlib.Core.Logic.{dite}
use native.Mathlib.Decide.{ℕ_discrete}
use Rattle.intake_rules.specs.Jobs.{AcceptedPlan}
use Rattle.bench_rule.specs.Views.{one_if, planners_of, rank, times_among}
use Rattle.bench_rule.proofs.Counts.{one_at}
use Rattle.judge_bench.specs.Bookkeeping.{AreCursors}

times_among-none : (planners : List ℕ) (planner : ℕ) → times_among planners planner 0 ≡ 0
times_among-none [] planner = refl
times_among-none (x ∷ xs) planner = refl

-- one more of the first jobs is counted if it is the planner's
pub times_among-next : (planners : List ℕ) (planner i : ℕ) → i < length planners → times_among planners planner (suc i) ≡ one_if (eqb (slice_index planners i) planner) + times_among planners planner i
times_among-next [] planner i within = absurd (omega arith)
times_among-next (x ∷ xs) planner zero within = ap (λ n. one_if (eqb x planner) + n) (times_among-none xs planner)
times_among-next (x ∷ xs) planner (suc i) within = omega (arith, times_among-next xs planner i (omega arith))

-- a job of the planner is one more
pub rank_next : (jobs : List AcceptedPlan) (slot planner : ℕ) (job : AcceptedPlan) → slice_get jobs slot ≡ Some job → job.planner ≡ planner → rank jobs planner (slot + 1) ≡ suc (rank jobs planner slot)
rank_next jobs slot planner job at his =
    let within : slot < length jobs = slice_get_within jobs slot job at in
    let whose : slice_index (planners_of jobs) slot ≡ planner = get_or-map (λ (j : AcceptedPlan). j.planner) jobs slot job 0 within ∙ ap (λ (j : AcceptedPlan). j.planner) (get_or_from_slice_get jobs slot job job at) ∙ his in
    let one = one_at (slice_index (planners_of jobs) slot) planner whose in
    let next = times_among-next (planners_of jobs) planner slot (omega (arith, within, length-map jobs (λ (j : AcceptedPlan). j.planner))) in
    ap (rank jobs planner) (add-one slot) ∙ omega (arith, next, one)

-- a planner's cursor was written, and at most that planner's number of emitted findings
pub cursor_set : (jobs : List AcceptedPlan) (emitted emitted' planners cursors : List ℕ) (planner slot : ℕ) → AreCursors jobs emitted planners cursors → length emitted' ≡ length emitted
    → planner < length emitted → slot ≤ length jobs → rank jobs planner slot ≡ slice_index emitted' planner → ((other : ℕ) → other ≢ planner → slice_index emitted' other ≡ slice_index emitted other)
    → AreCursors jobs emitted' planners (slice_set cursors planner slot)
cursor_set jobs emitted emitted' planners cursors planner slot kept long inside within counted others =
    record {
      planners_are = kept.planners_are;
      count = length-set cursors planner slot ∙ kept.count ∙ sym long;
      within = λ other. dite (ℕ_discrete other planner)
          (λ same. let at = here other same in omega (arith, at, within))
          (λ apart. let at = get_or-set_other cursors planner other slot 0 apart in omega (arith, at, kept.within other));
      reached = λ other. dite (ℕ_discrete other planner)
          (λ same. ap (rank jobs other) (here other same) ∙ ap (λ p. rank jobs p slot) same ∙ counted ∙ ap (slice_index emitted') (sym same))
          (λ apart. ap (rank jobs other) (get_or-set_other cursors planner other slot 0 apart) ∙ kept.reached other ∙ sym (others other apart));
    }
  where
    here : (other : ℕ) → other ≡ planner → slice_index (slice_set cursors planner slot) other ≡ slot
    here other same = ap (slice_index (slice_set cursors planner slot)) same ∙ get_or-set_same cursors planner slot 0 (omega (arith, inside, kept.count))

-- where the jobs from a planner's cursor up to a slot are others', the planner has as many jobs before the slot as findings were emitted
pub looked_through : (jobs : List AcceptedPlan) (emitted planners cursors : List ℕ) (planner from slot : ℕ) (seen : List ℕ) → AreCursors jobs emitted planners cursors → seen ≡ planners → planner < length emitted → from ≡ get_or cursors planner from
    → times_among seen planner slot ≡ times_among seen planner from → rank jobs planner slot ≡ slice_index emitted planner
looked_through jobs emitted planners cursors planner from slot seen kept same inside read between =
    let whose = same ∙ kept.planners_are in
    let at : from ≡ slice_index cursors planner = sym (get_or_from_slice_get cursors planner from 0 (slice_get_read cursors (length emitted) planner from (sym kept.count) inside read)) in
    ap (λ ps. times_among ps planner slot) (sym whose) ∙ between ∙ ap (λ ps. times_among ps planner from) whose ∙ ap (rank jobs planner) at ∙ kept.reached planner
