-- How a report goes through the plans of the planners, one by one. Wherever another planner's plans begin, the sum of the one before comes first.

use Rattle.std.specs.Prelude.{ℕ, ◌+◌, ◌<◌, ◌≤◌, ◌==◌, List, [], ◌∷◌, ◌++◌, map, get_or, None, if◌then◌else◌}
use Rattle.strips_task.specs.declared.costs.CostedTask.{CostedTask}
use Rattle.judge_bench.specs.Submissions.{SubmissionParts}
use Rattle.report_text.specs.declared.format.Format.{Format}
use Rattle.report_text.specs.Format.{plan_in, summary_in}
use Rattle.report_text.specs.Report.{Judged, least_cost}
use Rattle.judge_engine.specs.Answer.{judged_plan}
use Rattle.judge_engine.specs.Bundle.{BundleValue}
use Rattle.judge_engine.specs.declared.planner.ReportPosition.{ReportPosition}
use Rattle.judge_engine.specs.Tally.{tally_with}

-- the name of the planner with a number
abbrev pub name_of : List BundleValue → ℕ → List ℕ
name_of bundles planner = get_or (map (λ (bundle : BundleValue). bundle.name) bundles) planner []

-- before the first plan of a planner
abbrev pub start_of : ℕ → ReportPosition
start_of planner = record { planner = planner; tally = record { plans = 0; valid = 0; best = None; cost = None } }

-- it is at one of so many planners, and has at most so many plans of it, of which no more are valid
pub record IsPosition (planners most : ℕ) (position : ReportPosition) : Type 0 where
  pub known : position.planner < planners
  pub few : position.tally.plans ≤ most
  pub some : position.tally.valid ≤ position.tally.plans

-- the sum of a planner's plans
abbrev pub sum_text : Format → CostedTask → List BundleValue → ReportPosition → List ℕ
sum_text format task bundles position =
    summary_in format (name_of bundles position.planner) position.tally.plans position.tally.valid position.tally.best (least_cost task.costs position.tally.cost)

-- where a report stands once it turned to a planner
abbrev pub turned : ReportPosition → ℕ → ReportPosition
turned position planner = if planner == position.planner then position else start_of planner

-- what it adds when it turns to a planner: nothing if that is the same one
abbrev pub turn_text : Format → CostedTask → List BundleValue → ReportPosition → ℕ → List ℕ
turn_text format task bundles position planner = if planner == position.planner then [] else sum_text format task bundles position

-- where it stands with one more plan of a planner
abbrev pub position_with : ReportPosition → ℕ → Judged → ReportPosition
position_with position planner judged = record { planner = planner; tally = tally_with (turned position planner).tally judged }

-- what it adds for this plan
abbrev pub next_text : Format → CostedTask → List BundleValue → ReportPosition → ℕ → Judged → List ℕ
next_text format task bundles position planner judged =
    turn_text format task bundles position planner
    ++ plan_in format task.task (name_of bundles planner) ((turned position planner).tally.plans + 1) judged

-- the rest of a report: these plans and the last sum
unfoldable pub rest_text : Format → CostedTask → List BundleValue → ReportPosition → List SubmissionParts → List ℕ
rest_text format task bundles position [] = sum_text format task bundles position
rest_text format task bundles position (submitted ∷ plans) =
    next_text format task bundles position submitted.planner (judged_plan task submitted.plan)
    ++ rest_text format task bundles (position_with position submitted.planner (judged_plan task submitted.plan)) plans
