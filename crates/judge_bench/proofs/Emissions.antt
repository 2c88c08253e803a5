-- The findings that are kept, as plans are accepted and findings emitted.

use Rattle.std.proofs.Common.{◌≡◌, ◌≢◌, ◌<◌, ℕ, ◌+◌, zero, suc, false, List, [], ◌∷◌, ◌++◌, Some, length, map, take, set, get_or, refl, ap, sym, ◌∙◌, arith, inl, inr, add-one}
use Rattle.std.specs.Prelude.{replicate, slice_index}
use Rattle.std.specs.List.{range_with_len}
use Rattle.std.proofs.lemmas.Bool.{cases_eq}
use Rattle.std.proofs.lemmas.List.{length-append, length-map, length-set, length-replicate, map-append, take-append-le, take_all, take_more, get_or-map, get_or-set_same, get_or-set_other}
use Rattle.std.proofs.lemmas.List.FromFn.{get_or-map-range_with_len}
use Rattle.std.proofs.lemmas.Option.{slice_get_within, get_or_from_slice_get}
use Rattle.strips_task.specs.declared.costs.CostedTask.{CostedTask}
use Rattle.intake_rules.specs.declared.finding.Finding.{Finding}
use Rattle.intake_rules.specs.Findings.{IsRight}
use Rattle.intake_rules.specs.Intake.{jobs_of, next_job}
use Rattle.intake_rules.specs.Jobs.{AcceptedPlan}
use Rattle.bench_rule.specs.declared.views.Setting.{Setting}
use Rattle.bench_rule.specs.declared.views.View.{View}
use Rattle.bench_rule.specs.Views.{first_view, with_emission, with_posted}
use Rattle.judge_bench.specs.Findings.{by_planner, kept, nothing_kept, of_planner}
use Rattle.intake_rules.specs.Findings.{right_finding}
use Rattle.judge_bench.specs.Keeping.{KeptFindings, emitted_of}
use Rattle.judge_bench.specs.Seats.{accepted_intake}
use Rattle.judge_bench.proofs.ByPlanner.{nothing_found}
use Rattle.judge_bench.proofs.JobsOf.{found_of, jobs_of-append, planner_of_next}

-- two functions that agree have the same rows
same_rows : {A : Type 0} (f g : ℕ → A) (first planners : ℕ) → ((planner : ℕ) → planner < first + planners → f planner ≡ g planner) → map f (range_with_len first planners) ≡ map g (range_with_len first planners)
same_rows f g first zero agree = refl
same_rows f g first (suc planners) agree =
    let here : first < first + suc planners = omega arith in
    λ i. agree first here i ∷ same_rows f g (first + 1) planners (λ planner h. agree planner (omega arith)) i

-- a function that differs from another at one row alone has the other's rows with that one written
one_row_else : {A : Type 0} (f g : ℕ → A) (planner : ℕ) → ((other : ℕ) → other ≢ planner → g other ≡ f other)
    → (first planners index : ℕ) → first + index ≡ planner → index < planners
    → map g (range_with_len first planners) ≡ set (map f (range_with_len first planners)) index (g planner)
one_row_else f g planner others first zero index at within = absurd (omega arith)
one_row_else f g planner others first (suc planners) zero at within =
    let here : first ≡ planner = omega arith in
    λ i. ap g here i ∷ later_rows (first + 1) planners (omega arith) i
  where
    later_rows : (first planners : ℕ) → planner < first → map g (range_with_len first planners) ≡ map f (range_with_len first planners)
    later_rows first zero before = refl
    later_rows first (suc planners) before =
        let apart : first ≢ planner = λ e. omega arith in
        λ i. others first apart i ∷ later_rows (first + 1) planners (omega arith) i
one_row_else f g planner others first (suc planners) (suc index) at within =
    let apart : first ≢ planner = λ e. omega arith in
    λ i. others first apart i ∷ one_row_else f g planner others (first + 1) planners index (omega arith) (omega arith) i

-- at first each planner's number is 0
pub zeros : (planners planner : ℕ) → slice_index (replicate planners 0) planner ≡ 0
zeros zero planner = refl
zeros (suc planners) zero = refl
zeros (suc planners) (suc planner) = zeros planners planner

module _ (task : CostedTask) where
  -- at first nothing was emitted, and nothing is kept
  pub nothing_emitted : (setting : Setting) → KeptFindings task setting.planners (first_view setting) (nothing_kept setting.planners)
  unfolding jobs_of
  nothing_emitted setting = record {
    planners_are = length-replicate setting.planners false;
    count = length-replicate setting.planners 0;
    within = λ planner. let none = zeros setting.planners planner in omega arith;
    kept = nothing_found setting.planners
        ∙ same_rows (of_planner []) (emitted_of task (first_view setting)) 0 setting.planners
        (λ planner h. sym (take_all (slice_index (replicate setting.planners 0) planner) [] (omega arith)));
  }

  module _ (planners : ℕ) (view : View) (findings : List (List Finding)) (so_far : KeptFindings task planners view findings) where
    -- what changes neither jobs nor emissions changes nothing of it
    pub unmoved : (later : View) → later.jobs ≡ view.jobs → later.emitted ≡ view.emitted → length later.closed ≡ length view.closed → KeptFindings task planners later findings
    unmoved later jobs emitted closed = record {
      planners_are = closed ∙ so_far.planners_are;
      count = ap length emitted ∙ so_far.count;
      within = λ planner.
          let h = so_far.within planner in
          let e = ap (λ l. slice_index l planner) emitted in
          let n = ap (λ l. length (jobs_of planner l)) jobs in
          omega arith;
      kept = so_far.kept
          ∙ (λ i. map (λ planner. take (slice_index (sym emitted i) planner) (map (right_finding task) (jobs_of planner (sym jobs i)))) (range_with_len 0 planners));
    }

    -- one job more
    pub posted : (job : AcceptedPlan) → KeptFindings task planners (with_posted view job) findings
    posted job = record {
      planners_are = so_far.planners_are;
      count = so_far.count;
      within = λ planner.
          let h = so_far.within planner in
          let all = ap length (jobs_of-append planner view.jobs (job ∷ [])) ∙ length-append (jobs_of planner view.jobs) (jobs_of planner (job ∷ [])) in
          omega arith;
      kept = so_far.kept ∙ same_rows (emitted_of task view) (emitted_of task (with_posted view job)) 0 planners (λ planner h. sym (row planner));
    }
      where
        row : (planner : ℕ) → emitted_of task (with_posted view job) planner ≡ emitted_of task view planner
        row planner =
            let mine = map (right_finding task) (jobs_of planner view.jobs) in
            let new = map (right_finding task) (jobs_of planner (job ∷ [])) in
            let long = length-map (jobs_of planner view.jobs) (right_finding task) in
            let h = so_far.within planner in
            ap (λ l. take (slice_index view.emitted planner) (map (right_finding task) l)) (jobs_of-append planner view.jobs (job ∷ []))
            ∙ ap (take (slice_index view.emitted planner)) (map-append (right_finding task) (jobs_of planner view.jobs) (jobs_of planner (job ∷ [])))
            ∙ take-append-le (slice_index view.emitted planner) mine new (omega arith)

    -- one finding more is emitted and kept
    pub emitted_more : (planner : ℕ) (finding : Finding) → planner < planners → next_job (accepted_intake view) planner ≡ Some finding.job → IsRight task finding
        → KeptFindings task planners (with_emission view planner) (kept findings finding)
    emitted_more planner finding known next right =
        let count = slice_index view.emitted planner in
        let jobs = jobs_of planner view.jobs in
        let less : count < length jobs = slice_get_within jobs count finding.job next in
        let whose : finding.job.planner ≡ planner = planner_of_next planner view.jobs count finding.job next in
        let index : planner < length view.emitted = (let n = so_far.count in omega arith) in
        let more : slice_index (with_emission view planner).emitted planner ≡ suc count = get_or-set_same view.emitted planner (suc count) 0 index in
        let rows = map (emitted_of task view) (range_with_len 0 planners) in
        let at : 0 + planner ≡ planner = omega arith in
        let f = right_finding task in
        let is_right : f finding.job ≡ finding = (λ i. record { job = finding.job; verdict = sym right.0 i; cost = sym right.1 i }) in
        let last : get_or (map f jobs) count finding ≡ finding = (
        get_or-map f jobs count finding.job finding less ∙ ap f (get_or_from_slice_get jobs count finding.job finding.job next) ∙ is_right
        ) in
        let long = length-map jobs f in
        let row : emitted_of task (with_emission view planner) planner ≡ emitted_of task view planner ++ finding ∷ [] = (
        ap (λ n. take n (map f jobs)) (more ∙ sym (add-one count))
        ∙ take_more (map f jobs) count finding (omega arith)
        ∙ ap (λ x. take count (map f jobs) ++ x ∷ []) last
        ) in record {
          planners_are = so_far.planners_are;
          count = length-set view.emitted planner (suc count) ∙ so_far.count;
          within = λ other. elim (cases_eq other planner) [
            | inl same ↦
                let e : slice_index (with_emission view planner).emitted other ≡ suc count = ap (λ p. slice_index (with_emission view planner).emitted p) same ∙ more in
                let n = ap (λ p. length (jobs_of p view.jobs)) same in
                omega arith
            | inr apart ↦
                let e = get_or-set_other view.emitted planner other (suc count) 0 apart in
                let h = so_far.within other in
                omega arith
          ];
          kept = ap (λ p. set findings p (get_or findings p [] ++ finding ∷ [])) whose
              ∙ ap (λ l. set l planner (get_or l planner [] ++ finding ∷ [])) so_far.kept
              ∙ ap (λ l. set rows planner (l ++ finding ∷ [])) (get_or-map-range_with_len (emitted_of task view) 0 planners planner planner [] known at)
              ∙ ap (set rows planner) (sym row)
              ∙ sym (one_row_else (emitted_of task view) (emitted_of task (with_emission view planner)) planner
              (λ other apart. ap (λ n. take n (map f (jobs_of other view.jobs))) (get_or-set_other view.emitted planner other (suc count) 0 apart))
              0 planners planner at known);
        }

    -- where all were emitted, what is kept are the right findings of all jobs
    pub all_emitted : ((planner : ℕ) → planner < planners → slice_index view.emitted planner ≡ length (jobs_of planner view.jobs))
        → findings ≡ by_planner planners (map (right_finding task) view.jobs)
    all_emitted all =
        so_far.kept ∙ same_rows (emitted_of task view) (of_planner (map (right_finding task) view.jobs)) 0 planners row
      where
        row : (planner : ℕ) → planner < 0 + planners → emitted_of task view planner ≡ of_planner (map (right_finding task) view.jobs) planner
        row planner h =
            let long = length-map (jobs_of planner view.jobs) (right_finding task) in
            let e = all planner (omega arith) in
            take_all (slice_index view.emitted planner) (map (right_finding task) (jobs_of planner view.jobs)) (omega arith)
            ∙ sym (found_of task planner view.jobs)
