-- The plans of planners' files, and what is found of them.

use Rattle.std.proofs.Common.{◌≡◌, ℕ, ◌+◌, ◌<◌, zero, suc, List, [], ◌∷◌, All, Some, length, map, get_or, slice_get, refl, ap, sym, ◌∙◌, arith}
use Rattle.std.specs.Prelude.{slice_index_or}
use Rattle.std.proofs.lemmas.List.{length-append, length-map}
use Rattle.std.proofs.lemmas.List.Sums.{sum_by-append}
use Rattle.std.proofs.lemmas.List.Elements.{All-nil, All-cons}
use Rattle.std.proofs.lemmas.List.FromFn.{get_or-map-range_with_len, length-map-range_with_len}
use Rattle.strips_task.specs.declared.costs.CostedTask.{CostedTask}
use Rattle.strips_task.specs.declared.plans.Plan.{Plan}
use Rattle.intake_rules.specs.declared.finding.Finding.{Finding}
use Rattle.intake_rules.specs.Findings.{IsRight, counted_cost, right_finding, verdict_of}
use Rattle.intake_rules.specs.History.{numbered_from}
use Rattle.judge_bench.specs.Findings.{findings_of, of_planner}
use Rattle.judge_bench.specs.Submissions.{SubmissionParts, jobs_from}
use Rattle.plan_text.specs.Bundle.{parts}
use Rattle.judge_engine.specs.Answer.{judged_plan, plan_count}
use Rattle.judge_engine.specs.Bundle.{BundleValue}
use Rattle.judge_engine.specs.Plans.{handed_in, plan_of_cut, plan_of_part, plans_of_file, plans_of_files}
use Rattle.judge_engine.specs.declared.plans.Cut.{Cut}
use Rattle.report_text.specs.Report.{as_judged}

-- there are as many plans as parts
pub count_is : (planner : ℕ) (bundles : List BundleValue) → length (plans_of_files planner bundles) ≡ plan_count bundles
unfolding plan_count plans_of_file
count_is planner [] = refl
count_is planner (bundle ∷ bundles) =
    let plans = map (plan_of_part planner) (parts bundle.bytes) in
    omega (
      arith,
      length-append plans (plans_of_files (suc planner) bundles),
      length-map (parts bundle.bytes) (plan_of_part planner),
      count_is (suc planner) bundles,
      sum_by-append (λ (b : BundleValue). length (parts b.bytes)) (bundle ∷ []) bundles,
    )

-- the plans of ranges, handed in as one planner's, are found in their order
module _ (task : CostedTask) (bundles : List BundleValue) where
  -- the findings of the ranges, of which the first has this number as a job
  abbrev found : ℕ → List Cut → List Finding
  found number cuts = map (right_finding task) (jobs_from number (handed_in bundles cuts))

  all_of_one : (number : ℕ) (cuts : List Cut) → of_planner (found number cuts) 0 ≡ found number cuts
  unfolding numbered_from
  all_of_one number [] = refl
  all_of_one number (cut ∷ cuts) =
      ap (λ l. right_finding task (record { number = number; planner = 0; plan = (plan_of_cut bundles cut).plan }) ∷ l) (all_of_one (suc number) cuts)

  -- the one list of findings
  pub list_of_all : (cuts : List Cut) → slice_index_or (findings_of task 1 (handed_in bundles cuts)) 0 [] ≡ found 0 cuts
  unfolding findings_of
  list_of_all cuts =
      let at : 0 + 0 ≡ 0 = omega arith in
      get_or-map-range_with_len (of_planner (found 0 cuts)) 0 1 0 0 [] (omega arith) at ∙ all_of_one 0 cuts

  -- there is no other
  pub one_list : (plans : List SubmissionParts) → length (findings_of task 1 plans) ≡ 1
  unfolding findings_of
  one_list plans = length-map-range_with_len (of_planner (map (right_finding task) (jobs_from 0 plans))) 0 1

  -- it is as long as there are ranges
  pub count_found : (number : ℕ) (cuts : List Cut) → length (found number cuts) ≡ length cuts
  unfolding numbered_from
  count_found number [] = refl
  count_found number (cut ∷ cuts) = ap suc (count_found (suc number) cuts)

  -- and what is found of a range is what its plan calls for
  pub found_at : (number : ℕ) (cuts : List Cut) (i : ℕ) (finding : Finding) (cut : Cut) → slice_get (found number cuts) i ≡ Some finding → i < length cuts → cut ≡ get_or cuts i cut
      → as_judged finding ≡ judged_plan task (plan_of_cut bundles cut).plan
  unfolding numbered_from judged_plan verdict_of counted_cost
  found_at number [] i finding cut at lt is = absurd (omega arith)
  found_at number (c ∷ cuts) zero finding cut at lt is =
      let same : right_finding task (record { number = number; planner = 0; plan = (plan_of_cut bundles c).plan }) ≡ finding = cc in
      ap as_judged (sym same) ∙ ap (λ (x : Cut). judged_plan task (plan_of_cut bundles x).plan) (sym is)
  found_at number (c ∷ cuts) (suc i) finding cut at lt is = found_at (suc number) cuts i finding cut at (omega (arith, lt)) is

-- what is found of a job is what its plan calls for
pub right_is_judged : (task : CostedTask) (finding : Finding) (plan : Plan) → IsRight task finding → finding.job.plan ≡ plan → as_judged finding ≡ judged_plan task plan
unfolding judged_plan verdict_of counted_cost
right_is_judged task finding plan right same =
    (λ j. record { plan = finding.job.plan; verdict = right.0 j; cost = right.1 j }) ∙ ap (judged_plan task) same

-- all of them come from the one planner
pub all_of_first : (bundles : List BundleValue) (cuts : List Cut) → All (λ (plan : SubmissionParts). plan.planner < 1) (handed_in bundles cuts)
all_of_first bundles [] = All-nil (λ (plan : SubmissionParts). plan.planner < 1)
all_of_first bundles (cut ∷ cuts) =
    All-cons (λ (plan : SubmissionParts). plan.planner < 1) (record { planner = 0; plan = (plan_of_cut bundles cut).plan }) (handed_in bundles cuts) (omega arith) (all_of_first bundles cuts)

pub count_handed : (bundles : List BundleValue) (cuts : List Cut) → length (handed_in bundles cuts) ≡ length cuts
count_handed bundles [] = refl
count_handed bundles (cut ∷ cuts) = ap suc (count_handed bundles cuts)
