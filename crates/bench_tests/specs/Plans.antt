-- Plans that tests hand in.

use Rattle.std.specs.Prelude.{◌≡◌, ◌<◌, ℕ, List, All, length}
use Rattle.judge_bench.specs.Submissions.{SubmissionParts}

-- there are `count` plans, and each is of planner 0
abbrev pub AreOfFirstPlanner : ℕ → List SubmissionParts → Type 0
AreOfFirstPlanner count plans = (length plans ≡ count) × All (λ (plan : SubmissionParts). plan.planner < 1) plans
