use Rattle.std.proofs.Common.{Some}
use Rattle.strips_task.specs.Spelled.{step_spelled}
use Rattle.text_judge.proofs.pass.take_spelled.Goals as goal

pub returns-clause-tried : goal.returns-clause-tried
returns-clause-tried c = (
  λ steps passed taken.
      (Some (step_spelled c.in-Some.range.key.now), c.skip.ensures.passed steps passed, c.in_ok-take_spelled.ensures.taken c.if-not-branch.false steps taken),
  c.skip.ensures.shorter,
)
