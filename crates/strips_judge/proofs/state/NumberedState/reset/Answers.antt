use Rattle.std.proofs.Common.{ap, ◌∙◌, ltb}
use Rattle.strips_judge.specs.State.{is_in}
use Rattle.strips_judge.proofs.NumberedLaws.{initial_state}
use Rattle.strips_judge.proofs.state.NumberedState.reset.Goals as goal

pub returns-clause-state : goal.returns-clause-state
returns-clause-state c =
    initial_state c.self.inside.initial.now c.self.inside.later c.reset_to_first.new.self
    (λ k. c.reset_to_first.ensures.first k ∙ ap (ltb k) c.distinct_len.ensures)
    ∙ ap (λ s. is_in s.initial) c.self.view_is
