-- What is true of whole tasks and their plans.

use Rattle.std.specs.Prelude.{◌≡◌, ℕ, List}
use Rattle.formulas.specs.EffectTree.{EffectTree}
use Rattle.formulas.specs.Tree.{Tree}
use Rattle.strips_task.specs.declared.plans.Plan.{Plan}
use Rattle.strips_task.specs.declared.steps.StepText.{StepText}
use Rattle.strips_task.specs.declared.tasks.TaskParts.{TaskParts}
use Rattle.strips_task.specs.WellFormed.{IsWellFormed}
use Rattle.strips_judge.specs.State.{State}
use Rattle.strips_judge.specs.Step.{precondition, missing, after}
use Rattle.strips_judge.specs.Verdict.{verdict}
use Rattle.task_laws.specs.Alike.{IsJudgedAlike}
use Rattle.task_laws.specs.Replaced.{verdict_with}
use Rattle.task_laws.specs.WrittenOut.{written_out, effect_written_out, formula_written_out, task_written_out, IsQuantifierFree, IsEffectQuantifierFree}
use Rattle.task_laws.specs.Implications.{without_imply, effect_without_imply, task_without_imply, IsImplyFree, IsEffectImplyFree}
use Rattle.task_laws.specs.Literals.{IsOfLiterals, unsatisfied, strips_after, strips_verdict}

-- a task and the task with every quantifier written out over the objects judge a plan alike
abbrev pub QuantifiersMayBeWrittenOut : TaskParts → Plan → Type 0
QuantifiersMayBeWrittenOut parts plan = IsJudgedAlike (task_written_out parts) parts plan

-- with every quantifier of the task written out, the verdict of a plan is the same, except that the conditions that it lists are written out too
abbrev pub VerdictIsWrittenOut : TaskParts → Plan → Type 0
VerdictIsWrittenOut parts plan = verdict (task_written_out parts) plan ≡ verdict_with (formula_written_out parts) (verdict parts plan)

-- a formula or an effect with its quantifiers written out has none
abbrev pub NoQuantifierIsLeft : Type 0
NoQuantifierIsLeft = (objects_of : List ℕ → List ℕ) (bound : List ℕ)
    → ((tree : Tree) → IsQuantifierFree (written_out objects_of tree bound)) × ((effect : EffectTree) → IsEffectQuantifierFree (effect_written_out objects_of effect bound))

-- a well-formed task with every quantifier written out is well formed
abbrev pub WrittenOutIsWellFormed : TaskParts → Type 0
WrittenOutIsWellFormed parts = IsWellFormed parts → IsWellFormed (task_written_out parts)

-- a task and the task with every `(imply a b)` written as `(or (not a) b)` judge a plan alike
abbrev pub ImplyMayBeWrittenAsOr : TaskParts → Plan → Type 0
ImplyMayBeWrittenAsOr parts plan = IsJudgedAlike (task_without_imply parts) parts plan

-- with every `imply` of the task written as `or`, the verdict of a plan is the same, except that the conditions that it lists are written so too
abbrev pub VerdictIsWithoutImply : TaskParts → Plan → Type 0
VerdictIsWithoutImply parts plan = verdict (task_without_imply parts) plan ≡ verdict_with without_imply (verdict parts plan)

-- a formula or an effect with its `imply` written as `or` has none
abbrev pub NoImplyIsLeft : Type 0
NoImplyIsLeft = ((tree : Tree) → IsImplyFree (without_imply tree)) × ((effect : EffectTree) → IsEffectImplyFree (effect_without_imply effect))

-- a well-formed task with every `imply` written as `or` is well formed
abbrev pub WithoutImplyIsWellFormed : TaskParts → Type 0
WithoutImplyIsWellFormed parts = IsWellFormed parts → IsWellFormed (task_without_imply parts)

-- in a task of literals, what a step or the goal lacks in a state are exactly the literals that are not satisfied there
abbrev pub LackLiterals : TaskParts → Type 0
LackLiterals parts = IsOfLiterals parts → (state : State)
    → ((step : StepText) → missing parts state (precondition parts step) ≡ unsatisfied state (precondition parts step)) × (missing parts state parts.goal ≡ unsatisfied state parts.goal)

-- in a task of literals, a step leads from a state to that state minus its deletes, union its adds
abbrev pub StepsDeleteAndAdd : TaskParts → Type 0
StepsDeleteAndAdd parts = IsOfLiterals parts → (state : State) (step : StepText) → after parts state step ≡ strips_after parts state step

-- the verdict of a plan of a task of literals is that of STRIPS
abbrev pub LiteralsAreJudgedAsStrips : TaskParts → Plan → Type 0
LiteralsAreJudgedAsStrips parts plan = IsOfLiterals parts → verdict parts plan ≡ strips_verdict parts plan
