use Rattle.std.proofs.Common.{◌+◌, ◌<◌, ◌∷◌, ◌++◌, [], List, Some, subst, sym, ap, ◌∙◌, arith}
use Rattle.strips_task.specs.declared.steps.StepText.{StepText}
use Rattle.strips_task.specs.StepView.{step_shown}
use Rattle.strips_task.specs.declared.costs.CostedTask.{CostedTask}
use Rattle.strips_task.specs.declared.tasks.TaskParts.{TaskParts}
use Rattle.strips_judge.specs.NumberedState.{state_of}
use Rattle.strips_judge.specs.State.{State}
use Rattle.strips_judge.specs.Step.{after, hindrance}
use Rattle.strips_judge.proofs.VerdictLaws.{without_value}
use Rattle.text_judge.specs.Judging.{Judging, HasTaken}
use Rattle.text_judge.specs.Learned.{IsAmount}
use Rattle.text_judge.specs.Passes.{FailsNext}
use Rattle.text_judge.proofs.TakenLaws.{fails_here, has_taken_more, judge_grown, judge_counted}
use Rattle.text_judge.proofs.step_judge.Judge.take.Goals as goal

pub invariant_of-self : goal.invariant_of-self
invariant_of-self c =
    judge_grown c.self.inside.task c.self.inside.state c.self.inside.cost c.self.inside.count c.self.inside.memo c.self.invariant c.take_step.new.state c.take_step.ensures.grows

pub invariant_of-self-in-Some : goal.invariant_of-self-in-Some
invariant_of-self-in-Some c =
    judge_grown c.self.inside.task c.self.inside.state c.self.inside.cost c.self.inside.count c.self.inside.memo c.self.invariant c.take_step.new.state c.take_step.ensures.grows

pub invariant_of-self-in_err-amount : goal.invariant_of-self-in_err-amount
invariant_of-self-in_err-amount c =
    judge_grown c.self.inside.task c.self.inside.state c.self.inside.cost c.self.inside.count c.self.inside.memo c.self.invariant c.take_step.new.state c.take_step.ensures.grows

pub returns-in-Some-clause-fails : goal.returns-in-Some-clause-fails
returns-in-Some-clause-fails c =
    subst (λ (j : Judging). (steps : List StepText) → HasTaken j steps → FailsNext j.task steps (step_shown c.args.step) c.in-Some.why) c.self.view_is
    (λ steps taken rest. fails_here c.self.inside.task c.self.inside.state c.self.inside.cost c.self.inside.count (Some c.in-Some.why) (step_shown c.args.step)
    (sym c.in-Some.is ∙ c.in_ok-why.ensures.why ∙ ap (λ (parts : TaskParts). hindrance parts (state_of c.self.inside.state) (step_shown c.args.step)) c.index-index.ensures) steps rest taken)

pub invariant_of-self-2 : goal.invariant_of-self-2
invariant_of-self-2 c =
    let lt : c.self.inside.count < 1000000 = omega (arith, c.requires, ap (λ (j : Judging). j.count) c.self.view_is) in
    judge_counted c.self.inside.task c.take_step.new.state c.self.inside.cost c.self.inside.count c.self.inside.memo
    (judge_grown c.self.inside.task c.self.inside.state c.self.inside.cost c.self.inside.count c.self.inside.memo c.self.invariant c.take_step.new.state c.take_step.ensures.grows)
    c.raise.new.cost c.in_ok-amount.amount lt c.raise.ensures.small c.in_ok-amount.ensures.small

pub returns-clause-taken : goal.returns-clause-taken
returns-clause-taken c =
    subst (λ (j : Judging). (steps : List StepText) → HasTaken j steps
    → HasTaken (record { task = c.self.inside.task; state = c.take_step.new.state; cost = c.raise.new.cost; count = c.self.inside.count + 1 }) (steps ++ step_shown c.args.step ∷ []))
    c.self.view_is
    (has_taken_more c.self.inside.task c.self.inside.state c.self.inside.cost c.self.inside.count c.take_step.new.state c.raise.new.cost c.in_ok-amount.amount
    (step_shown c.args.step)
    (λ stays. record {
      not_hindered = ap (λ (parts : TaskParts). hindrance parts (state_of c.self.inside.state) (step_shown c.args.step)) (sym c.index-index.ensures) ∙ sym c.in_ok-why.ensures.why ∙ c.in_default.is;
      leads = ◌∙◌ {A = State} (without_value _ c.in_default.is c.in_ok-why.ensures.next) (ap (λ (parts : TaskParts). after parts (state_of c.self.inside.state) (step_shown c.args.step)) c.index-index.ensures);
      adds = subst (λ (task : CostedTask). IsAmount task.task task.costs (step_shown c.args.step) c.in_ok-amount.amount) c.costed.ensures c.in_ok-amount.ensures.amount;
    })
    c.raise.ensures.sum)
