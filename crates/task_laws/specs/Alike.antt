-- Two tasks that judge a plan alike, in the words of PDDL.

use Rattle.std.specs.Prelude.{◌↔◌, ℕ}
use Rattle.strips_task.specs.declared.plans.Plan.{Plan}
use Rattle.strips_task.specs.declared.tasks.TaskParts.{TaskParts}
use Rattle.strips_judge.specs.Validity.{IsValidPlan, IsFirstFailure, IsGoalMissed}

-- the plan is valid for both tasks or for neither, first fails at the same step for both or for neither, and misses the goals of both or of neither
abbrev pub IsJudgedAlike : TaskParts → TaskParts → Plan → Type 0
IsJudgedAlike task other plan =
    ((count : ℕ) → IsValidPlan task plan count ↔ IsValidPlan other plan count)
    × ((number : ℕ) → IsFirstFailure task plan number ↔ IsFirstFailure other plan number)
    × (IsGoalMissed task plan ↔ IsGoalMissed other plan)
