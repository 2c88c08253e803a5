use Rattle.std.proofs.Common.{◌≡◌, List, ap, subst, ◌∙◌}
use Rattle.strips_task.specs.declared.plans.Plan.TheVariants.{Steps}
use Rattle.strips_task.specs.declared.steps.StepText.{StepText}
use Rattle.strips_task.specs.declared.costs.CostedTask.{CostedTask}
use Rattle.strips_task.specs.declared.tasks.TaskParts.{TaskParts}
use Rattle.strips_judge.specs.NumberedState.{state_of}
use Rattle.strips_judge.specs.Step.{missing}
use Rattle.strips_judge.specs.Verdict.{goal_verdict}
use Rattle.plan_cost.specs.declared.assessments.Assessment.{Assessment}
use Rattle.plan_cost.specs.Assessments.{assessment}
use Rattle.text_judge.specs.Judging.{Judging, HasTaken, cost_by}
use Rattle.text_judge.proofs.TakenLaws.{found_at_end}
use Rattle.text_judge.proofs.step_judge.Judge.finish.Goals as goal

pub returns-clause-answer : goal.returns-clause-answer
returns-clause-answer c =
    subst (λ (j : Judging). (steps : List StepText) → HasTaken j steps
    → ◌≡◌ {A = Assessment} (record { verdict = c.in_ok-verdict.verdict; cost = c.cost_beside-cost.result }) (assessment j.task (Steps steps))) c.self.view_is
    (found_at_end c.self.inside.task c.self.inside.state c.self.inside.cost c.self.inside.count c.in_ok-verdict.verdict c.cost_beside-cost.result
    (c.in_ok-verdict.ensures.verdict ∙ ap (λ (parts : TaskParts). goal_verdict c.self.inside.count (missing parts (state_of c.self.inside.state) parts.goal)) c.index-index.ensures)
    (c.cost_beside-cost.ensures.cost ∙ ap (λ (task : CostedTask). cost_by task.costs c.in_ok-verdict.verdict c.self.inside.cost) c.costed.ensures))
