-- The plans of a run.

use Rattle.std.specs.Global.{Vec}
use Rattle.std.specs.Prelude.{◌≡◌, ℕ, suc, ◌<◌, ◌≤◌, List, [], ◌∷◌, ◌++◌, Option, None, Some, All, map, length, get_or, slice_range}
use Rattle.judge_bench.specs.Submissions.{SubmissionParts}
use Rattle.plan_text.specs.Bundle.{parts}
use Rattle.plan_text.specs.PlanReading.{plan_of}
use Rattle.judge_engine.specs.Answer.{most_plans}
use Rattle.judge_engine.specs.Bundle.{BundleValue}
use Rattle.judge_engine.specs.declared.plans.Cut.{Cut}

-- the plan of a part of a planner's file
abbrev pub plan_of_part : ℕ → List ℕ → SubmissionParts
plan_of_part planner part = record { planner = planner; plan = plan_of part }

-- the plans of a planner's file, part by part
unfoldable pub plans_of_file : ℕ → BundleValue → List SubmissionParts
plans_of_file planner bundle = map (plan_of_part planner) (parts bundle.bytes)

-- the plans of the planners' files; the first planner has this number
abbrev pub plans_of_files : ℕ → List BundleValue → List SubmissionParts
plans_of_files planner [] = []
plans_of_files planner (bundle ∷ bundles) = plans_of_file planner bundle ++ plans_of_files (suc planner) bundles

-- the bytes of a planner's file
abbrev pub bytes_of : List BundleValue → ℕ → List ℕ
bytes_of bundles planner = get_or (map (λ (bundle : BundleValue). bundle.bytes) bundles) planner []

-- the range is one of the bytes of a planner's file
abbrev pub IsCutOf : List BundleValue → Cut → Type 0
IsCutOf bundles cut = (cut.planner < length bundles) × (cut.start ≤ cut.end) × (cut.end ≤ length (bytes_of bundles cut.planner))

-- each of the ranges is
abbrev pub AreCutsOf : List BundleValue → List Cut → Type 0
AreCutsOf bundles cuts = All (IsCutOf bundles) cuts

-- the plan of a range
abbrev pub plan_of_cut : List BundleValue → Cut → SubmissionParts
plan_of_cut bundles cut = plan_of_part cut.planner (slice_range (bytes_of bundles cut.planner) cut.start cut.end)

-- the plans of ranges
abbrev pub plans_of_cuts : List BundleValue → List Cut → List SubmissionParts
plans_of_cuts bundles cuts = map (plan_of_cut bundles) cuts

-- the ranges are those of all plans of a planner's file; there are none if it alone holds too many
abbrev pub AreCutsOfFile : List BundleValue → ℕ → Option (Vec Cut) → Type 0
AreCutsOfFile bundles planner None = most_plans < length (parts (bytes_of bundles planner))
AreCutsOfFile bundles planner (Some cuts) =
    AreCutsOf bundles cuts.items
    × (plans_of_cuts bundles cuts.items ≡ map (plan_of_part planner) (parts (bytes_of bundles planner)))

-- the plans of ranges as one planner's
abbrev pub handed_in : List BundleValue → List Cut → List SubmissionParts
handed_in bundles cuts = map (λ cut. record { planner = 0; plan = (plan_of_cut bundles cut).plan }) cuts
