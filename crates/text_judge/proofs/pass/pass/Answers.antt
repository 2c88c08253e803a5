use Rattle.std.proofs.Common.{Option, subst}
use Rattle.text_judge.specs.declared.pass.Passed.{Passed}
use Rattle.text_judge.specs.Passes.{GoOnOrEnd}
use Rattle.text_judge.proofs.Histories.{ends_pass}
use Rattle.text_judge.proofs.pass.pass.Goals as goal

pub returns-in-Some-clause-passed : goal.returns-in-Some-clause-passed
returns-in-Some-clause-passed c =
    let together = c.steps.invariant.together in
    let end = subst (λ (o : Option Passed). GoOnOrEnd o c.advance.new.walk c.advance.new.judge together.0) c.in-Some.is
    (c.in_ok-passed.ensures.next together.0 together.1 together.2) in
    ends_pass c.in-Some.passed c.advance.new.walk c.advance.new.judge together.0 end
