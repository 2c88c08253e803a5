use Rattle.std.proofs.Common.{◌∙◌, [], ℕ, Some, subst, sym, ap}
use Rattle.strips_task.specs.declared.costs.CostedTask.{CostedTask}
use Rattle.strips_judge.specs.State.{is_in}
use Rattle.text_judge.specs.Judging.{HasTaken, IsCostSoFar}
use Rattle.text_judge.proofs.TakenLaws.{has_begun}
use Rattle.text_judge.proofs.step_judge.Judge.new.Goals as goal

pub returns-clause-begun : goal.returns-clause-begun
returns-clause-begun c =
    subst (λ (task : CostedTask). HasTaken (record { task = task; state = c.in_ok-state.state; cost = Some c.from.result; count = 0 }) []) (sym c.in_ok-new.ensures)
    (has_begun c.args.task.now c.in_ok-state.state (Some c.from.result)
    (c.in_ok-state.ensures.state ∙ ap is_in c.initial_atoms-initial.ensures)
    (subst (λ (n : ℕ). IsCostSoFar c.args.task.now.task c.args.task.now.costs [] (Some n)) (sym c.from.ensures) c.initial_of.ensures))
