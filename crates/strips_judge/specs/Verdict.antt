-- The verdict of a plan: the first step that is not applicable in its turn, or else what the goal lacks (PDDL 2.1, Fox and Long 2003, section 6).

use Rattle.std.specs.Prelude.{ℕ, ◌+◌, List, [], ◌∷◌, Option, Some, None}
use Rattle.formulas.specs.Tree.{Tree}
use Rattle.strips_task.specs.declared.plans.Plan.{Plan}
use Rattle.strips_task.specs.declared.plans.Plan.TheVariants.{Steps, Unreadable}
use Rattle.strips_task.specs.declared.steps.StepText.{StepText}
use Rattle.strips_task.specs.declared.tasks.TaskParts.{TaskParts}
use Rattle.strips_judge.specs.declared.verdict.Verdict.{Verdict}
use Rattle.strips_judge.specs.declared.verdict.Verdict.TheVariants as answer
use Rattle.strips_judge.specs.declared.verdict.Why.{Why}
use Rattle.strips_judge.specs.State.{State, is_in}
use Rattle.strips_judge.specs.Step.{hindrance, after, missing}

-- the verdict when all steps, this many, were applicable and these formulas of the goal do not hold
abbrev pub goal_verdict : ℕ → List Tree → Verdict
goal_verdict steps [] = answer.Valid steps
goal_verdict steps (condition ∷ conditions) = answer.Goal (condition ∷ conditions)

-- the verdict from this step on: that it fails, if there is a reason, and otherwise the verdict of the rest of the plan
abbrev pub step_verdict : ℕ → Option Why → Verdict → Verdict
step_verdict step (Some why) rest = answer.Fails step why
step_verdict step None rest = rest

-- the verdict of the steps that are left, in this state and after `taken` steps
abbrev pub verdict_from : TaskParts → ℕ → State → List StepText → Verdict
verdict_from parts taken state [] = goal_verdict taken (missing parts state parts.goal)
verdict_from parts taken state (step ∷ steps) = step_verdict (taken + 1) (hindrance parts state step) (verdict_from parts (taken + 1) (after parts state step) steps)

-- the verdict of a plan, from the state in which the initial atoms are true
abbrev pub verdict : TaskParts → Plan → Verdict
verdict parts (Steps steps) = verdict_from parts 0 (is_in parts.init) steps
verdict parts (Unreadable line) = answer.Unreadable line
