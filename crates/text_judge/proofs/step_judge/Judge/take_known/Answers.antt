use Rattle.std.proofs.Common.{◌+◌, ◌∷◌, ◌++◌, [], List, Some, subst, ap, ◌∙◌}
use Rattle.strips_task.specs.declared.steps.StepText.{StepText}
use Rattle.strips_task.specs.Spelled.{step_spelled}
use Rattle.strips_judge.specs.NumberedState.{state_of}
use Rattle.strips_judge.specs.Statics.{KeepsStatics}
use Rattle.plan_cost.specs.Costs.{added}
use Rattle.text_judge.specs.Judging.{Judging, HasTaken}
use Rattle.text_judge.specs.Learned.{Takes}
use Rattle.text_judge.proofs.TakenLaws.{with_value, has_taken_more, judge_still}
use Rattle.text_judge.proofs.step_judge.Judge.take_known.Goals as goal

pub invariant_of-self : goal.invariant_of-self
invariant_of-self c =
    judge_still c.self.inside.task c.self.inside.state c.self.inside.cost c.self.inside.count c.self.inside.memo c.self.invariant c.take_remembered.new.state
    c.take_remembered.ensures.initial c.take_remembered.ensures.atoms

pub returns-clause-taken : goal.returns-clause-taken
returns-clause-taken c = λ t.
    let step = step_spelled c.args.key.now in
    subst (λ (j : Judging). (steps : List StepText) → HasTaken j steps
    → HasTaken (record { task = c.self.inside.task; state = c.take_remembered.new.state; cost = c.raise.new.cost; count = c.self.inside.count + 1 }) (steps ++ step ∷ []))
    c.self.view_is
    (has_taken_more c.self.inside.task c.self.inside.state c.self.inside.cost c.self.inside.count c.take_remembered.new.state c.raise.new.cost (Some c.in-Some.amount) step
    (with_value (λ amount. KeepsStatics c.self.inside.task.task (state_of c.self.inside.state) → Takes c.self.inside.task (state_of c.self.inside.state) (state_of c.take_remembered.new.state) step (Some amount)) c.in_ok-found.found
    c.in-Some.amount c.in-Some.is c.in_ok-found.ensures.taken)
    (c.raise.ensures.sum ∙ ap (λ n. added c.self.inside.cost (Some n)) c.from.ensures))
