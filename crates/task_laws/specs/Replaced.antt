-- A task with other formulas and effects in place of its own, and a verdict with other formulas in place of those that it lists.

use Rattle.std.specs.Prelude.{List, map}
use Rattle.formulas.specs.EffectTree.{EffectTree}
use Rattle.formulas.specs.Equality.{tree_eq}
use Rattle.formulas.specs.Tree.{Tree}
use Rattle.strips_task.specs.declared.actions.Action.{Action}
use Rattle.strips_task.specs.declared.tasks.TaskParts.{TaskParts}
use Rattle.strips_task.specs.FirstOccurrences.{first_occurrences}
use Rattle.strips_judge.specs.declared.verdict.Verdict.{Verdict}
use Rattle.strips_judge.specs.declared.verdict.Verdict.TheVariants.{Fails, Goal}
use Rattle.strips_judge.specs.declared.verdict.Why.{Why}
use Rattle.strips_judge.specs.declared.verdict.Why.TheVariants.{Missing}

-- the action with each formula of its precondition and each of its effects replaced
abbrev pub action_with : (Tree → Tree) → (EffectTree → EffectTree) → Action → Action
action_with formula effect action = record action { pre = map formula action.pre; effects = map effect action.effects }

-- the task with the formulas and effects of each action, and the formulas of the goal, replaced
abbrev pub task_with : (Tree → Tree) → (EffectTree → EffectTree) → TaskParts → TaskParts
task_with formula effect parts =
    record parts { actions = map (λ entry. (entry.0, action_with formula effect entry.1)) parts.actions; goal = map formula parts.goal }

-- a list of conditions that do not hold, each of them replaced. Those that become the same are listed once
abbrev pub unmet_with : (Tree → Tree) → List Tree → List Tree
unmet_with formula unmet = first_occurrences tree_eq (map formula unmet)

-- the reason with the conditions that it lists replaced; any other reason stays
abbrev pub why_with : (Tree → Tree) → Why → Why
why_with formula (Missing unmet) = Missing (unmet_with formula unmet)
why_with formula why = why

-- the verdict with the conditions that it lists replaced: whether the plan is valid, and at which step it fails for which reason, stays
abbrev pub verdict_with : (Tree → Tree) → Verdict → Verdict
verdict_with formula (Fails step why) = Fails step (why_with formula why)
verdict_with formula (Goal unmet) = Goal (unmet_with formula unmet)
verdict_with formula verdict = verdict
