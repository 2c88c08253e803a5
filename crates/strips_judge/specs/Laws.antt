-- What a verdict means: the laws that join the judge's answers to validity in the words of PDDL.

use Rattle.std.specs.Prelude.{◌≡◌, ◌↔◌, ℕ}
use Rattle.strips_task.specs.declared.plans.Plan.{Plan}
use Rattle.strips_task.specs.declared.tasks.TaskParts.{TaskParts}
use Rattle.formulas.specs.Tree.{Tree}
use Rattle.std.specs.Prelude.{List}
use Rattle.strips_judge.specs.declared.verdict.Verdict.TheVariants as answer
use Rattle.strips_judge.specs.declared.verdict.Why.{Why}
use Rattle.strips_judge.specs.Validity.{IsValidPlan, IsFirstFailure, IsGoalMissed}
use Rattle.strips_judge.specs.Verdict.{verdict}

-- the verdict is `Valid` if and only if the plan is valid, with the number of its steps
abbrev pub ValidMeansValid : TaskParts → Plan → Type 0
ValidMeansValid parts plan = (count : ℕ) → (verdict parts plan ≡ answer.Valid count) ↔ IsValidPlan parts plan count

-- the verdict is `Fails` if and only if the plan fails, with the number of the first step that is not applicable
abbrev pub FailsMeansFirstFailure : TaskParts → Plan → Type 0
FailsMeansFirstFailure parts plan = (number : ℕ) → ((why : Why) × (verdict parts plan ≡ answer.Fails number why)) ↔ IsFirstFailure parts plan number

-- the verdict is `Goal` if and only if all steps are applicable in their turn and the goal does not hold after them
abbrev pub GoalMeansGoalMissed : TaskParts → Plan → Type 0
GoalMeansGoalMissed parts plan = ((unmet : List Tree) × (verdict parts plan ≡ answer.Goal unmet)) ↔ IsGoalMissed parts plan
