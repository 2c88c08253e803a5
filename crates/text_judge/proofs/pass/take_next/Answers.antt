use Rattle.std.proofs.Common.{◌++◌, ◌∷◌, [], ℕ, List, Some, map, subst}
use Rattle.pddl_words.specs.Words.{folded}
use Rattle.strips_task.specs.Steps.{step_of}
use Rattle.text_judge.specs.Judging.{HasTaken}
use Rattle.text_judge.proofs.pass.take_next.Goals as goal

pub returns-in-None-clause-next : goal.returns-in-None-clause-next
returns-in-None-clause-next c = λ steps passed taken.
    let takes = rw c.in-None.is at c.in_ok-take_words-in-Found-Step.ensures.taken in
    let found = rw c.in-Found-Step.field-0-is at c.in-Found-Step.ensures in (
      Some (step_of (map folded c.in-Found-Step.found)),
      found.behind.passed steps passed,
      subst (λ (words : List (List ℕ)). HasTaken c.take_words.new.judge (steps ++ step_of (map folded words) ∷ [])) c.fork.ensures (takes steps taken),
    )
