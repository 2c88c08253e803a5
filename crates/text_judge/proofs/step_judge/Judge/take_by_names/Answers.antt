use Rattle.std.proofs.Common.{◌+◌, ◌∷◌, ◌++◌, [], List, ℕ, subst, sym}
use Rattle.strips_task.specs.declared.steps.StepText.{StepText}
use Rattle.strips_task.specs.Spelled.{step_spelled}
use Rattle.strips_task.specs.declared.costs.CostedTask.{CostedTask}
use Rattle.strips_judge.specs.StepNumbers.{IsNumbered}
use Rattle.text_judge.specs.Judging.{Judging, HasTaken}
use Rattle.text_judge.specs.Learned.{IsAmount}
use Rattle.text_judge.proofs.TakenLaws.{has_taken_more}
use Rattle.text_judge.proofs.step_judge.Judge.take_by_names.Goals as goal

pub returns-clause-taken : goal.returns-clause-taken
returns-clause-taken c = λ t.
    let task = c.self.inside.task in
    let step = step_spelled c.args.row.now in
    let numbered = subst (λ (numbers : List ℕ). IsNumbered c.costed-task.result.now.task step numbers) (sym c.as_slice-numbers.ensures.value) (c.in_ok-number_names.ensures.numbered c.if-not-branch.false) in
    subst (λ (j : Judging). (steps : List StepText) → HasTaken j steps
    → HasTaken (record { task = task; state = c.take_new.new.state; cost = c.raise.new.cost; count = c.self.inside.count + 1 }) (steps ++ step ∷ []))
    c.self.view_is
    (has_taken_more task c.self.inside.state c.self.inside.cost c.self.inside.count c.take_new.new.state c.raise.new.cost c.in_ok-amount.amount step
    (λ stays. let taken = c.in_ok-is_taken.ensures.taken c.if-not-is_taken.false stays in record { not_hindered = taken.0; leads = taken.1; adds = subst (λ (t : CostedTask). IsAmount t.task t.costs step c.in_ok-amount.amount) c.costed-task.ensures (c.in_ok-amount.ensures.amount step numbered) })
    c.raise.ensures.sum)
