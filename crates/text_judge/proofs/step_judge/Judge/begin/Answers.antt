use Rattle.std.proofs.Common.{◌≡◌, [], ℕ, Some, subst, sym}
use Rattle.strips_task.specs.declared.costs.CostedTask.{CostedTask}
use Rattle.strips_judge.specs.NumberedState.{state_of}
use Rattle.strips_judge.specs.State.{is_in}
use Rattle.text_judge.specs.Judging.{Judging, IsCostSoFar}
use Rattle.text_judge.proofs.TakenLaws.{has_begun}
use Rattle.text_judge.proofs.step_judge.Judge.begin.Goals as goal

pub returns-clause-begun : goal.returns-clause-begun
returns-clause-begun c =
    has_begun c.self.inside.task c.self.inside.state (Some c.from.result)
    (subst (λ (j : Judging). state_of j.state ≡ is_in j.task.task.init) (sym c.self.view_is) c.in_ok-start_over.ensures.state)
    (subst (λ (n : ℕ). IsCostSoFar c.self.inside.task.task c.self.inside.task.costs [] (Some n)) (sym c.from.ensures)
    (subst (λ (task : CostedTask). IsCostSoFar task.task task.costs [] (Some c.initial_of.result)) c.costed.ensures c.initial_of.ensures))
